-- Frames of one channel whose length octets after 87 are given, read into arrays of two elements and of one.
use Rattle.std.specs.Prelude.{◌≡◌, refl, List, [], ◌∷◌, ◌++◌, map, false, ℕ}
use Rattle.definition.specs.Frame.{and}
use Rattle.definition.specs.Read.{be_at, head_at, span_at, number_at, uint_at, text_at, refr_tm_at, gm_identity_at, has_at, optional_at, signed_of, samples_at, asdu_at, asdus_at, pdu_at, tagged, simulation_of, header_from, header_at}
use Rattle.definition.specs.Placed.{room_at, placed_at, placeds_at, no_asdu_at, start_at}
use Rattle.definition.specs.Answers.{refusal, described, read_frame, held_by, ordinary_read, is_refused}
use Rattle.fit.specs.Fit.{asdus_in, misfit, misfit_in, checked_read}

-- an ASDU: 30, svID, smpCnt, confRev, smpSynch; 87, these length octets, and one sample
unfoldable asdu : List ℕ → List ℕ
asdu len = (0x30 ∷ 21 ∷ 0x80 ∷ 0 ∷ 0x82 ∷ 1 ∷ 5 ∷ 0x83 ∷ 1 ∷ 1 ∷ 0x85 ∷ 1 ∷ 2 ∷ 0x87 ∷ []) ++ (len ++ (0 ∷ 0 ∷ 0 ∷ 1 ∷ 0 ∷ 0 ∷ 0 ∷ 2 ∷ []))

-- the header; 60, noASDU, A2, and the ASDUs, of which the first starts at 29
unfoldable frame : ℕ → List ℕ → List ℕ
frame no_asdu asdus =
    (1 ∷ 2 ∷ 3 ∷ 4 ∷ 5 ∷ 6 ∷ 6 ∷ 5 ∷ 4 ∷ 3 ∷ 2 ∷ 1 ∷ 0x88 ∷ 0xBA ∷ 0x40 ∷ 0 ∷ 0 ∷ 61 ∷ 0 ∷ 0 ∷ 0 ∷ 0
    ∷ 0x60 ∷ 51 ∷ 0x80 ∷ 1 ∷ no_asdu ∷ 0xA2 ∷ 46 ∷ [])
    ++ asdus

-- two ASDUs: the samples of the first start at 44, those of the second at 67
abbrev two : ℕ → ℕ → List ℕ
two k m = frame 2 (asdu (k ∷ []) ++ asdu (m ∷ []))

-- one ASDU with the length in more octets
abbrev one : List ℕ → List ℕ
one len = frame 1 (asdu len)

-- "place the octet after that length in the earliest such ASDU": the second differs, both differ, the first differs; "after everything
-- ordinary reading refuses": with arrays that are too short, 7. A length is a number, however many octets it takes: 82 00 10 is 16,
-- and the octet after it is 46
refused_so :
    checked_read 1 2 2 (two 8 7)
    ∷ checked_read 1 2 2 (two 0 16)
    ∷ checked_read 1 2 2 (two 16 8)
    ∷ checked_read 1 2 1 (two 8 7)
    ∷ checked_read 1 1 1 (one (0x82 ∷ 0 ∷ 16 ∷ []))
    ∷ []
    ≡ refusal 13 67 ∷ refusal 13 44 ∷ refusal 13 44 ∷ refusal 7 0 ∷ refusal 13 46 ∷ []
unfolding frame asdu checked_read misfit_in asdus_in misfit placeds_at placed_at start_at no_asdu_at room_at ordinary_read read_frame held_by described and head_at be_at span_at number_at uint_at text_at refr_tm_at gm_identity_at has_at optional_at signed_of samples_at asdu_at asdus_at pdu_at tagged simulation_of header_from header_at
refused_so = refl

-- lengths that fit; 81 08 and 82 00 08 are 8; no ASDU, nothing to check
accepted_so :
    map is_refused (
    checked_read 1 2 2 (two 8 8)
    ∷ checked_read 1 1 1 (one (0x81 ∷ 8 ∷ []))
    ∷ checked_read 1 1 1 (one (0x82 ∷ 0 ∷ 8 ∷ []))
    ∷ checked_read 1 0 0 (frame 0 [])
    ∷ []
    )
    ≡ false ∷ false ∷ false ∷ false ∷ []
unfolding frame asdu checked_read misfit_in asdus_in misfit placeds_at placed_at start_at no_asdu_at room_at ordinary_read read_frame held_by described and head_at be_at span_at number_at uint_at text_at refr_tm_at gm_identity_at has_at optional_at signed_of samples_at asdu_at asdus_at pdu_at tagged simulation_of header_from header_at is_refused
accepted_so = refl
