-- What U7 means for the calls of the static library: whatever results meet the contracts of hopsickle_values, hopsickle_write_values and
-- the readers, with counts and scale factors within the bounds.
use Rattle.std.specs.Prelude.{◌≡◌, List, ℕ, ◌*◌, ◌≤◌, ℤ, length, take, Float}
use Rattle.std.proofs.Common.{sym, ◌∙◌, le-ltb}
use Rattle.definition.specs.Frame.{Form, Octets}
use Rattle.definition.specs.Answers.{accepted, is_refused, over}
use Rattle.definition.specs.Scaling.{counts_given}
use Rattle.definition.specs.Flat.{nth, flat_description, flat_encode, flat_encode_values, flat_counts}
use Rattle.flat_agreement.specs.Calls.{WriteCall, StrictCall, ReadCall}
use Rattle.flat_agreement.proofs.Described.{flat_first}
use Rattle.flat_agreement.proofs.Theorems.{read_then_write}
use Rattle.lossless.specs.Bounds.{AllWithin}
use Rattle.values_agreement.specs.Calls.{ValuesCall, WriteValuesCall}
use Rattle.values_agreement.specs.Read.{AcceptedReading, accepted_call, call_as_ordinary}
use Rattle.values_agreement.specs.Back.{values_answered, fit_values, scaled, length_scaled, counts_back}

-- of a reading that is accepted the values are too, where the array for them is long enough
values_taken : {scales : List Float} {no_asdu : ℕ} {cs : List ℤ} {old new : List Float} {r size : ℕ} → AcceptedReading (length scales) no_asdu cs → no_asdu * length scales ≤ length old
    → ValuesCall scales no_asdu cs old new r size → ValuesCall scales no_asdu cs old new 0 size
values_taken {scales} {no_asdu} {cs} {old} {new} {r} l long x =
    let z : r ≡ 0 = x.meets.number ∙ rw (fit_values (length scales) no_asdu (length cs) (length old) (record { channels = l.channels; counts = l.counts; values = long })) in
    rw z at x

-- with the same description, the writer of values that are counts answers as the writer of counts
flat_alike : (form : Form) (n : ℕ) (k o : List ℕ) (a : ℕ) (l cs : List ℤ) (qs : List ℕ) (room : ℕ) → flat_description n k o l qs ≡ flat_description n k o cs qs
    → nth k 9 * n ≤ a → nth k 9 * n ≤ length cs → flat_encode_values form n k o a (accepted l) l qs room ≡ flat_encode form n k o cs qs room
unfolding flat_encode_values flat_encode is_refused
flat_alike form n k o a l cs qs room e g h = rw (e, le-ltb a (nth k 9 * n) g, le-ltb (length cs) (nth k 9 * n) h)

-- `hopsickle_write_values`, of the values that `hopsickle_values` left of counts, answers and writes what `hopsickle_write` does of the
-- counts themselves: number, size or place, and every octet of the buffer. The arrays are any, those of an ordinary reading among them.
pub values_written : {form : Form} {scales : List Float} {k o : List ℕ} {cs : List ℤ} {old new : List Float} {m : ℕ} {qs buffer buffer' : List ℕ} {r size : ℕ}
    → AllWithin (length scales) scales cs (nth k 9 * length scales) → ValuesCall scales (nth k 9) cs old new 0 m → WriteValuesCall form scales k o new qs buffer buffer' r size
    → WriteCall form (length scales) k o cs qs buffer buffer' r size
unfolding counts_given
values_written {form} {scales} {k} {o} {cs} {old} {new} {m} {qs} {buffer} {buffer'} {r} {size} within v e =
    let n : ℕ = length scales in
    let l : List ℤ = take (nth k 9 * n) cs in
    let fit = values_answered n (nth k 9) (length cs) (length old) (sym v.meets.number) in
    let left : new ≡ scaled n (nth k 9) scales cs old = v.meets.array ∙ rw (fit_values n (nth k 9) (length cs) (length old) fit) in
    let c : flat_counts k scales new ≡ accepted l = rw left (counts_back n (nth k 9) scales cs old fit within) in
    let same : flat_description n k o l qs ≡ flat_description n k o cs qs = flat_first n k o cs qs in
    let long : nth k 9 * n ≤ length new = rw (left, length_scaled n (nth k 9) scales cs old fit) fit.values in
    let alike = flat_alike form n k o (length new) l cs qs (length buffer) same long fit.counts in
    record { meets = rw (alike, same) at (rw c at e.meets) }

-- `hopsickle_read`, `hopsickle_values`, then `hopsickle_write_values` with the same scale factors: what was read is written as the counts
-- that were read are.
pub read_values_written : {form : Form} {scales : List Float} {s k k' o o' : List ℕ} {cs cs' : List ℤ} {qs qs' : List ℕ} {place : ℕ} {old new : List Float} {v m : ℕ} {buffer buffer' : List ℕ} {r size : ℕ}
    → Octets s → ReadCall (length scales) s k k' o o' cs cs' qs qs' 0 place → AllWithin (length scales) scales cs' (nth k' 9 * length scales) → nth k' 9 * length scales ≤ length old
    → ValuesCall scales (nth k' 9) cs' old new v m → WriteValuesCall form scales k' o' new qs' buffer buffer' r size → WriteCall form (length scales) k' o' cs' qs' buffer buffer' r size
read_values_written bytes c within long x e = values_written within (values_taken (accepted_call bytes c).reading long x) e

-- So a frame that `hopsickle_read_strict` accepts comes back octet for octet through values: read, scaled and written again, with room for
-- it, it is the frame that was read, and the rest of the buffer is as it was.
pub read_then_write_values : {form : Form} {scales : List Float} {s k k' o o' : List ℕ} {cs cs' : List ℤ} {qs qs' : List ℕ} {place : ℕ} {old new : List Float} {v m : ℕ} {buffer buffer' : List ℕ} {r size : ℕ}
    → Octets s → StrictCall form (length scales) s k k' o o' cs cs' qs qs' 0 place → AllWithin (length scales) scales cs' (nth k' 9 * length scales) → nth k' 9 * length scales ≤ length old
    → ValuesCall scales (nth k' 9) cs' old new v m → length s ≤ length buffer → WriteValuesCall form scales k' o' new qs' buffer buffer' r size
    → (r ≡ 0) × (size ≡ length s) × (buffer' ≡ over buffer 0 s)
read_then_write_values bytes c within long x room e = read_then_write bytes c room (read_values_written bytes (call_as_ordinary bytes c) within long x e)
