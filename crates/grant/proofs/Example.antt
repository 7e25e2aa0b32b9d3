-- A frame of one ASDU and two channels, whose smpSynch has the length 0 and so the sign of the octet that follows, the tag 87.
use Rattle.std.specs.Prelude.{◌≡◌, refl, List, [], ◌∷◌, map, true, false, ℕ, ℤ, pos, negsuc}
use Rattle.definition.specs.Frame.{Description, and}
use Rattle.definition.specs.Read.{be_at, head_at, span_at, number_at, uint_at, text_at, refr_tm_at, gm_identity_at, has_at, optional_at, signed_of, samples_at, asdu_at, asdus_at, pdu_at, tagged, simulation_of, header_from, header_at}
use Rattle.definition.specs.Placed.{with_samples, no_asdu_at, start_at}
use Rattle.definition.specs.Flat.{left}
use Rattle.definition.specs.Answers.{Answer, refusal, described, read_frame, held_by, over, counts_of, all_counts}
use Rattle.grant.specs.Grant.{shows, shown_from, shown_of, granted, granted_read, or, hidden_sample, fields_at, hidden_asdu, hidden_asdus, hidden}

-- the header; 60, noASDU, A2, 30, svID, smpCnt, confRev, smpSynch; 87 and the samples: 1 with 2, then -1 with 3
unfoldable frame : List ℕ
frame =
    1 ∷ 2 ∷ 3 ∷ 4 ∷ 5 ∷ 6 ∷ 6 ∷ 5 ∷ 4 ∷ 3 ∷ 2 ∷ 1 ∷ 0x88 ∷ 0xBA ∷ 0x40 ∷ 0 ∷ 0 ∷ 45 ∷ 0 ∷ 0 ∷ 0 ∷ 0
    ∷ 0x60 ∷ 35 ∷ 0x80 ∷ 1 ∷ 1 ∷ 0xA2 ∷ 30 ∷ 0x30 ∷ 28 ∷ 0x80 ∷ 0 ∷ 0x82 ∷ 1 ∷ 5 ∷ 0x83 ∷ 1 ∷ 1 ∷ 0x85 ∷ 0 ∷ 0x87 ∷ 16
    ∷ 0 ∷ 0 ∷ 0 ∷ 1 ∷ 0 ∷ 0 ∷ 0 ∷ 2 ∷ 0xFF ∷ 0xFF ∷ 0xFF ∷ 0xFF ∷ 0 ∷ 0 ∷ 0 ∷ 3 ∷ []

-- the grant of channel 0 hides the octets of channel 1, which are 51 to 58, and that of channel 1 those of channel 0, from 43 on
hides_second : map (hidden 2 1 frame) (42 ∷ 43 ∷ 50 ∷ 51 ∷ 58 ∷ 59 ∷ []) ≡ false ∷ false ∷ false ∷ true ∷ true ∷ false ∷ []
unfolding frame hidden hidden_asdus hidden_asdu hidden_sample fields_at start_at no_asdu_at or shows and head_at be_at span_at number_at uint_at text_at refr_tm_at gm_identity_at has_at optional_at samples_at asdu_at tagged header_from header_at
hides_second = refl

hides_first : map (hidden 2 2 frame) (42 ∷ 43 ∷ 50 ∷ 51 ∷ 58 ∷ 59 ∷ []) ≡ false ∷ true ∷ true ∷ false ∷ false ∷ false ∷ []
unfolding frame hidden hidden_asdus hidden_asdu hidden_sample fields_at start_at no_asdu_at or shows and head_at be_at span_at number_at uint_at text_at refr_tm_at gm_identity_at has_at optional_at samples_at asdu_at tagged header_from header_at
hides_first = refl

-- the counts that an answer leaves in an array
abbrev counts : Answer (Description × ℕ) → List ℤ → List ℤ
counts = left (λ (x : Description × ℕ). all_counts x.0.asdus)

-- what the customer of channel 1 finds in an array of two elements; one is enough, none is not
finds_second : counts (granted_read 2 2 2 2 frame) (pos 7 ∷ pos 8 ∷ []) ≡ negsuc 0 ∷ pos 8 ∷ []
unfolding frame granted_read granted with_samples shown_from shown_of shows read_frame held_by over all_counts counts_of described and head_at be_at span_at number_at uint_at text_at refr_tm_at gm_identity_at has_at optional_at signed_of samples_at asdu_at asdus_at pdu_at tagged simulation_of header_from header_at
finds_second = refl

no_room_lem : granted_read 2 2 0 1 frame ≡ refusal 7 0
unfolding frame granted_read granted with_samples shown_from shown_of shows read_frame held_by over all_counts counts_of described and head_at be_at span_at number_at uint_at text_at refr_tm_at gm_identity_at has_at optional_at signed_of samples_at asdu_at asdus_at pdu_at tagged simulation_of header_from header_at
no_room_lem = refl

-- a mask that shows nothing needs no element
nothing_shown : counts (granted_read 2 4 0 0 frame) [] ≡ []
unfolding frame granted_read granted with_samples shown_from shown_of shows read_frame held_by over all_counts counts_of described and head_at be_at span_at number_at uint_at text_at refr_tm_at gm_identity_at has_at optional_at signed_of samples_at asdu_at asdus_at pdu_at tagged simulation_of header_from header_at
nothing_shown = refl
