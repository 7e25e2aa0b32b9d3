-- Results that meet the contracts of scaling::values_of, encode_values::encode_values, hopsickle_values and hopsickle_write_values:
-- definitions only. Those of the other calls stand in Calls of record_agreement and of flat_agreement.
use Rattle.std.specs.Prelude.{List, ℕ, ◌*◌, length, ℤ, Float, Result}
use Rattle.definition.specs.Frame.{Form, frame_octets}
use Rattle.definition.specs.Answers.{encode_values}
use Rattle.definition.specs.Scaling.{values_of, values_answer}
use Rattle.definition.specs.Flat.{flat_encode_values, flat_counts, flat_counts_given, flat_described_by}
use Rattle.definition.specs.Calls.{Writes}
use Rattle.rt_services.specs.declared.SavPdu.{SavPdu}
use Rattle.rt_services.specs.declared.EthernetHeader.{EthernetHeader}
use Rattle.rt_services.specs.declared.SavDataSetConfig.{SavDataSetConfig}
use Rattle.rt_services.specs.declared.Refusal.{Refusal}
use Rattle.rt_services.specs.Told.{WritesAt}
use Rattle.rt_services.specs.Values.{counts_for, described_by}

-- scaling::values_of, of the counts cs of noASDU ASDUs, answers v, and leaves the values old as new
pub record Scales (config : SavDataSetConfig) (no_asdu : ℕ) (cs : List ℤ) (old new : List Float) (v : Result ℕ Refusal) : Type 0 where
  pub meets : WritesAt (values_answer config.channels no_asdu (length cs) (length old)) 0 (values_of config.channels config.scale_factor cs (no_asdu * config.channels)) old v new

-- encode_values::encode_values, of the values vs, answers w, and leaves the buffer old as new
pub record EncodesValues (form : Form) (config : SavDataSetConfig) (h : EthernetHeader) (p : SavPdu) (vs : List Float) (qs old new : List ℕ) (w : Result ℕ Refusal) : Type 0 where
  pub meets : WritesAt (encode_values form config.channels (length vs) (length qs) (length old) (counts_for p config vs) (described_by h p config vs qs)) 0
      (frame_octets form (described_by h p config vs qs)) old w new

-- hopsickle_values answers r and size, and leaves the values old as new
pub record ValuesCall (scales : List Float) (no_asdu : ℕ) (cs : List ℤ) (old new : List Float) (r size : ℕ) : Type 0 where
  pub meets : Writes (values_answer (length scales) no_asdu (length cs) (length old)) (values_of (length scales) scales cs (no_asdu * length scales)) old new r size

-- hopsickle_write_values answers r and size, and leaves the buffer old as new
pub record WriteValuesCall (form : Form) (scales : List Float) (k o : List ℕ) (vs : List Float) (qs old new : List ℕ) (r size : ℕ) : Type 0 where
  pub meets : Writes (flat_encode_values form (length scales) k o (length vs) (flat_counts k scales vs) (flat_counts_given k scales vs) qs (length old))
      (frame_octets form (flat_described_by k o scales vs qs)) old new r size
