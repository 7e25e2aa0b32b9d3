-- Additions and readings, where a data set is its number of channels; frames of one channel whose ASDUs have given confRevs.
use Rattle.std.specs.Prelude.{◌≡◌, refl, List, [], ◌∷◌, ◌++◌, map, ℕ, zero, suc, take}
use Rattle.std.specs.Prelude.{Option, Some, None}
use Rattle.definition.specs.Frame.{Description, and, all}
use Rattle.definition.specs.Read.{be_at, head_at, span_at, number_at, uint_at, text_at, refr_tm_at, gm_identity_at, has_at, optional_at, signed_of, samples_at, asdu_at, asdus_at, pdu_at, tagged, simulation_of, header_from, header_at}
use Rattle.definition.specs.Placed.{no_asdu_at, start_at}
use Rattle.definition.specs.Answers.{Answer, accepted, refusal, described, read_frame, held_by, ordinary_read}
use Rattle.data_sets.specs.DataSets.{higher, add, added, stored, find, rev_at, rev_from, first_rev, one_rev, read_with, read_by}

abbrev channels : ℕ → ℕ
channels x = x

-- ---- additions

-- the first; a higher one; 14 for an equal and for a lower one; 8, also where it isn't higher
pub added_so :
    add channels [] 7 8
    ∷ add channels ((7, 8) ∷ []) 9 24
    ∷ add channels ((7, 8) ∷ []) 7 8
    ∷ add channels ((7, 8) ∷ []) 6 8
    ∷ add channels ((7, 8) ∷ []) 9 25
    ∷ add channels ((7, 8) ∷ []) 7 25
    ∷ []
    ≡ accepted ((7, 8) ∷ []) ∷ accepted ((7, 8) ∷ (9, 24) ∷ []) ∷ refusal 14 0 ∷ refusal 14 0 ∷ refusal 8 0 ∷ refusal 8 0 ∷ []
unfolding add higher all and
added_so = refl

-- n sets of one channel, from this confRev upward
unfoldable pub sets : ℕ → ℕ → List (ℕ × ℕ)
sets zero rev = []
sets (suc n) rev = (rev, 1) ∷ sets n (suc rev)

-- all 32 are taken from an empty store, one after the other
pub thirty_two : stored channels [] (sets 32 1) ≡ sets 32 1
unfolding stored added add higher all and sets
thirty_two = refl

-- the thirty-third is refused 14, and 8 stands before that
pub thirty_third : add channels (sets 32 1) 33 1 ∷ add channels (sets 32 1) 33 25 ∷ [] ≡ refusal 14 0 ∷ refusal 8 0 ∷ []
unfolding add higher all and sets
thirty_third = refl

-- ---- readings

-- an ASDU of this confRev, in 23 octets: 30, svID, smpCnt, confRev, smpSynch, 87 and one sample
unfoldable pub asdu : ℕ → List ℕ
asdu rev = 0x30 ∷ 21 ∷ 0x80 ∷ 0 ∷ 0x82 ∷ 1 ∷ 5 ∷ 0x83 ∷ 1 ∷ rev ∷ 0x85 ∷ 1 ∷ 2 ∷ 0x87 ∷ 8 ∷ 0 ∷ 0 ∷ 0 ∷ 1 ∷ 0 ∷ 0 ∷ 0 ∷ 2 ∷ []

-- the header; 60, noASDU, A2 at 27, and the ASDUs, of which the first starts at 29 and has its confRev at 38
unfoldable pub frame : ℕ → List ℕ → List ℕ
frame no_asdu asdus =
    (1 ∷ 2 ∷ 3 ∷ 4 ∷ 5 ∷ 6 ∷ 6 ∷ 5 ∷ 4 ∷ 3 ∷ 2 ∷ 1 ∷ 0x88 ∷ 0xBA ∷ 0x40 ∷ 0 ∷ 0 ∷ 61 ∷ 0 ∷ 0 ∷ 0 ∷ 0
    ∷ 0x60 ∷ 51 ∷ 0x80 ∷ 1 ∷ no_asdu ∷ 0xA2 ∷ 46 ∷ [])
    ++ asdus

abbrev one : ℕ → List ℕ
one rev = frame 1 (asdu rev)

abbrev two : ℕ → ℕ → List ℕ
two rev later = frame 2 (asdu rev ++ asdu later)

-- the first two of one confRev
abbrev three : ℕ → ℕ → List ℕ
three rev last = frame 3 (asdu rev ++ (asdu rev ++ asdu last))

-- 15: no set for the confRev; a set for the second ASDU's alone; no ASDU. Before 15: octets that end before A2's length. After it:
-- octets that end after the confRev, with no set and with one. Two confRevs: 16, also where only the third ASDU's is another, and 7
-- before it
pub refused_so :
    read_by channels ((7, 1) ∷ []) 2 2 (one 8)
    ∷ read_by channels ((9, 1) ∷ []) 2 2 (two 7 9)
    ∷ read_by channels ((7, 1) ∷ []) 2 2 (frame 0 [])
    ∷ read_by channels ((7, 1) ∷ []) 2 2 (take 28 (frame 0 []))
    ∷ read_by channels ((9, 1) ∷ []) 2 2 (take 39 (one 7))
    ∷ read_by channels ((7, 1) ∷ []) 2 2 (take 39 (one 7))
    ∷ read_by channels ((7, 1) ∷ (9, 1) ∷ []) 2 2 (two 7 9)
    ∷ read_by channels ((7, 1) ∷ (9, 1) ∷ []) 3 3 (three 7 9)
    ∷ read_by channels ((7, 1) ∷ (9, 1) ∷ []) 2 1 (two 7 9)
    ∷ []
    ≡ refusal 15 0 ∷ refusal 15 0 ∷ refusal 15 0 ∷ refusal 1 27 ∷ refusal 15 0 ∷ refusal 1 39 ∷ refusal 16 0 ∷ refusal 16 0 ∷ refusal 7 0 ∷ []
unfolding frame asdu read_by read_with first_rev rev_from rev_at find one_rev all start_at no_asdu_at ordinary_read read_frame held_by described and head_at be_at span_at number_at uint_at text_at refr_tm_at gm_identity_at has_at optional_at signed_of samples_at asdu_at asdus_at pdu_at tagged simulation_of header_from header_at
refused_so = refl

-- the set handed back, where a frame is accepted
abbrev handed : Answer (ℕ × (Description × ℕ)) → Option ℕ
handed (accepted x) = Some x.0
handed (refusal k p) = None

-- the set of the confRev, of two; two ASDUs of one confRev
pub accepted_so :
    map handed (
    read_by channels ((7, 0) ∷ (9, 1) ∷ []) 1 1 (one 7)
    ∷ read_by channels ((7, 0) ∷ (9, 1) ∷ []) 1 1 (one 9)
    ∷ read_by channels ((7, 0) ∷ (9, 1) ∷ []) 2 2 (two 9 9)
    ∷ []
    )
    ≡ Some 0 ∷ Some 1 ∷ Some 1 ∷ []
unfolding frame asdu read_by read_with first_rev rev_from rev_at find one_rev all start_at no_asdu_at ordinary_read read_frame held_by described and head_at be_at span_at number_at uint_at text_at refr_tm_at gm_identity_at has_at optional_at signed_of samples_at asdu_at asdus_at pdu_at tagged simulation_of header_from header_at
accepted_so = refl
