-- What U7 means for the calls of Rattle: whatever results meet the contracts of scaling::value_of, count_of, values_of and counts_of, of
-- encode_values::encode_values and of the readers, with counts and scale factors within the bounds.
use Rattle.std.specs.Prelude.{◌≡◌, List, ℕ, ◌*◌, ◌≤◌, ℤ, length, take, Float, Result, Ok}
use Rattle.std.proofs.Common.{sym, ap, ◌∙◌, mul-zero, le-ltb}
use Rattle.definition.specs.Limits.{max_channels}
use Rattle.definition.specs.Frame.{Form, Description, Octets}
use Rattle.definition.specs.Answers.{accepted, is_refused, encode_smv, encode_values, over}
use Rattle.definition.specs.Scaling.{value_of, count_of, counts_of_values, counts_given}
use Rattle.definition.specs.Flat.{number_of}
use Rattle.rt_services.specs.declared.SavPdu.{SavPdu}
use Rattle.rt_services.specs.declared.EthernetHeader.{EthernetHeader}
use Rattle.rt_services.specs.declared.SavDataSetConfig.{SavDataSetConfig}
use Rattle.rt_services.specs.declared.SavRead.{SavRead}
use Rattle.rt_services.specs.declared.Refusal.{Refusal}
use Rattle.rt_services.specs.Describe.{description_of}
use Rattle.rt_services.specs.Reasons.{told}
use Rattle.rt_services.specs.Told.{answer_as}
use Rattle.rt_services.proofs.Reasons.{told_same}
use Rattle.rt_services.specs.Values.{counts_for, described_by}
use Rattle.scaling.specs.Told.{held_counts}
use Rattle.encode_values.specs.Values.{first_counts}
use Rattle.record_agreement.specs.Calls.{Encodes, ReadsOrdinarily, ReadsStrictly}
use Rattle.record_agreement.specs.Accepted.{described_count}
use Rattle.record_agreement.specs.Theorems.{read_then_write}
use Rattle.lossless.specs.Bounds.{greatest, CountWithin, ScaleWithin, AllWithin}
use Rattle.lossless.proofs.Lossless.{lossless_to}
use Rattle.values_agreement.specs.Calls.{Scales, EncodesValues}
use Rattle.values_agreement.specs.Read.{AcceptedReading, accepted_reading, as_ordinary}
use Rattle.values_agreement.specs.Back.{values_answered, fit_values, scaled, length_scaled, counts_back}

-- ---- one count, and all counts of a reading

-- `count_of` of what `value_of` gives of a count, with the same scale factor, answers the count.
pub value_then_count : {c : ℤ} (scale : Float) {value : Float} {r : Result ℤ Refusal} → CountWithin greatest c → ScaleWithin scale → value ≡ value_of c scale → told r ≡ count_of value scale → r ≡ Ok c
value_then_count {c} scale {value} {r} h k v e = told_same r (Ok c) (e ∙ rw v (lossless_to c scale h k))

-- values that are accepted: how many there are, and what `counts_of` asks of them
pub values_many : {config : SavDataSetConfig} {no_asdu : ℕ} {cs : List ℤ} {old new : List Float} {v : Result ℕ Refusal} {m : ℕ} → Scales config no_asdu cs old new v → told v ≡ accepted m → m ≡ no_asdu * config.channels
values_many {config} {no_asdu} {cs} {old} {new} {v} {m} x a =
    let fit = values_answered config.channels no_asdu (length cs) (length old) (ap number_of (sym x.meets.written ∙ a)) in
    let e : accepted m ≡ accepted (no_asdu * config.channels) = sym a ∙ x.meets.written ∙ fit_values config.channels no_asdu (length cs) (length old) fit in
    cc e

pub counts_asked : {config : SavDataSetConfig} {no_asdu : ℕ} {cs : List ℤ} {old new : List Float} {v : Result ℕ Refusal} {m : ℕ} → Scales config no_asdu cs old new v → told v ≡ accepted m
    → (config.channels ≤ max_channels) × ((config.channels ≡ 0 → m ≡ 0) × (m ≤ length new))
counts_asked {config} {no_asdu} {cs} {old} {new} {v} {m} x a =
    let fit = values_answered config.channels no_asdu (length cs) (length old) (ap number_of (sym x.meets.written ∙ a)) in
    let many = values_many x a in
    let left : new ≡ scaled config.channels no_asdu config.scale_factor cs old = x.meets.elements ∙ rw (sym x.meets.written ∙ a) in
    (fit.channels, (λ z. many ∙ ap (λ (i : ℕ). no_asdu * i) z ∙ mul-zero no_asdu, rw (many, left, length_scaled config.channels no_asdu config.scale_factor cs old fit) fit.values))

-- `counts_of` of the values that `values_of` left, with the same data set, has the counts.
pub values_then_counts : {config : SavDataSetConfig} {no_asdu : ℕ} {cs : List ℤ} {old new : List Float} {v : Result ℕ Refusal} {m : ℕ} {q : Result (List ℤ) Refusal}
    → AllWithin config.channels config.scale_factor cs (no_asdu * config.channels) → Scales config no_asdu cs old new v → told v ≡ accepted m
    → told q ≡ answer_as held_counts (counts_of_values config.channels config.scale_factor new (no_asdu * config.channels)) → q ≡ Ok (held_counts (take (no_asdu * config.channels) cs))
values_then_counts {config} {no_asdu} {cs} {old} {new} {v} {q = q} within c a e =
    let fit = values_answered config.channels no_asdu (length cs) (length old) (ap number_of (sym c.meets.written ∙ a)) in
    told_same q (Ok (held_counts (take (no_asdu * config.channels) cs))) (e ∙ rw (c.meets.elements, sym c.meets.written ∙ a, counts_back config.channels no_asdu config.scale_factor cs old fit within))

-- ---- a whole frame

-- of a reading that is accepted the values are too, where the array for them is long enough
values_taken : {config : SavDataSetConfig} {no_asdu : ℕ} {cs : List ℤ} {old new : List Float} {v : Result ℕ Refusal} → AcceptedReading config.channels no_asdu cs → no_asdu * config.channels ≤ length old
    → Scales config no_asdu cs old new v → told v ≡ accepted (no_asdu * config.channels)
values_taken {config} {no_asdu} {cs} {old} l long x =
    x.meets.written ∙ fit_values config.channels no_asdu (length cs) (length old) (record { channels = l.channels; counts = l.counts; values = long })

-- with the same description, the writer of values that are counts answers as the writer of counts
encode_alike : (form : Form) (n a a' b room : ℕ) (d : Description) (l : List ℤ) → length d.asdus * n ≤ a → length d.asdus * n ≤ a' → encode_values form n a b room (accepted l) d ≡ encode_smv form n a' b room d
unfolding encode_values encode_smv is_refused
encode_alike form n a a' b room d l h k = rw (le-ltb a (length d.asdus * n) h, le-ltb a' (length d.asdus * n) k)

-- `encode_values`, of the values that `values_of` left of counts, answers and writes what `encode_smv` does of the counts themselves: the
-- answer, the refusal's number and place, and every octet of the buffer. The header, the PDU and the counts are any, those of an ordinary
-- reading among them.
pub values_written : {form : Form} {config : SavDataSetConfig} {h : EthernetHeader} {p : SavPdu} {cs : List ℤ} {old new : List Float} {v : Result ℕ Refusal} {m : ℕ} {qs buffer buffer' : List ℕ} {w : Result ℕ Refusal}
    → AllWithin config.channels config.scale_factor cs (p.no_asdu * config.channels) → Scales config p.no_asdu cs old new v → told v ≡ accepted m
    → EncodesValues form config h p new qs buffer buffer' w → Encodes form config.channels h p cs qs buffer buffer' w
unfolding counts_for described_by counts_given
values_written {form} {config} {h} {p} {cs} {old} {new} {v} {m} {qs} {buffer} {buffer'} {w} within x a e =
    let n : ℕ = config.channels in
    let l : List ℤ = take (p.no_asdu * n) cs in
    let d : Description = description_of n h p cs qs in
    let fit = values_answered n p.no_asdu (length cs) (length old) (ap number_of (sym x.meets.written ∙ a)) in
    let left : new ≡ scaled n p.no_asdu config.scale_factor cs old = x.meets.elements ∙ rw (sym x.meets.written ∙ a) in
    let c : counts_for p config new ≡ accepted l = rw left (counts_back n p.no_asdu config.scale_factor cs old fit within) in
    let k = described_count n h p cs qs in
    let long : p.no_asdu * n ≤ length new = rw (left, length_scaled n p.no_asdu config.scale_factor cs old fit) fit.values in
    let said : told w ≡ encode_smv form n (length cs) (length qs) (length buffer) d
    = e.meets.written ∙ rw (c, first_counts n h p cs qs) (encode_alike form n (length new) (length cs) (length qs) (length buffer) d l (rw k long) (rw k fit.counts)) in
    record { said = said; left = e.meets.elements ∙ rw (sym e.meets.written ∙ said, c, first_counts n h p cs qs) }

-- Ordinary reading, the values of its counts, then the writer of values with the same data set: what was read is written as the counts
-- that were read are.
pub read_values_written : {form : Form} {config : SavDataSetConfig} {s : List ℕ} {cs cs' : List ℤ} {qs qs' : List ℕ} {r : SavRead} {old new : List Float} {v : Result ℕ Refusal} {buffer buffer' : List ℕ} {w : Result ℕ Refusal}
    → Octets s → ReadsOrdinarily config.channels s cs cs' qs qs' (Ok r) → AllWithin config.channels config.scale_factor cs' (r.pdu.no_asdu * config.channels)
    → r.pdu.no_asdu * config.channels ≤ length old → Scales config r.pdu.no_asdu cs' old new v → EncodesValues form config r.header r.pdu new qs' buffer buffer' w
    → Encodes form config.channels r.header r.pdu cs' qs' buffer buffer' w
read_values_written bytes c within long x e = values_written within x (values_taken (accepted_reading bytes c) long x) e

-- So a frame that strict reading accepts comes back octet for octet through values: read, scaled and written again, with room for it, it is
-- the frame that was read, and the rest of the buffer is as it was.
pub read_then_write_values : {form : Form} {config : SavDataSetConfig} {s : List ℕ} {cs cs' : List ℤ} {qs qs' : List ℕ} {r : SavRead} {old new : List Float} {v : Result ℕ Refusal} {buffer buffer' : List ℕ} {w : Result ℕ Refusal}
    → Octets s → ReadsStrictly form config.channels s cs cs' qs qs' (Ok r) → AllWithin config.channels config.scale_factor cs' (r.pdu.no_asdu * config.channels)
    → r.pdu.no_asdu * config.channels ≤ length old → Scales config r.pdu.no_asdu cs' old new v → length s ≤ length buffer
    → EncodesValues form config r.header r.pdu new qs' buffer buffer' w → (w ≡ Ok (length s)) × (buffer' ≡ over buffer 0 s)
read_then_write_values bytes c within long x room e = read_then_write bytes c room (read_values_written bytes (as_ordinary c) within long x e)
