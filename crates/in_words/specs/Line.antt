-- A refusal in words: one line, the place as people say it and then the words.
use Rattle.std.specs.Prelude.{Bool, cond, List, [], ◌∷◌, ◌++◌, ℕ}
use Rattle.rules.specs.declared.Name.{Name}
use Rattle.rules.specs.declared.Name.TheVariants.{Msh, Pid, Pv1}
use Rattle.rules.specs.declared.Refusal.{Refusal}
use Rattle.rules.specs.Lists.{bytes, any, decimal}
use Rattle.rules.specs.Frame.{spelling, is}
use Rattle.csv_rules.specs.declared.FileFault.{FileFault}
use Rattle.spot.specs.declared.Spot.{Spot}
use Rattle.words.specs.declared.Where.{Where}
use Rattle.words.specs.declared.Where.TheVariants.{Nowhere, AtSpot, AtSegment, AtLine, AtField}
use Rattle.words.specs.Words.{saying, breach_of, words_of, fault_words}

-- ---- the place
-- "MSH PID PV1, then one or more specimens": these a message has once
unfoldable pub once : Name → Bool
once n = any (is n) (Msh ∷ Pid ∷ Pv1 ∷ [])

unfoldable pub of_segment : Name → ℕ → List ℕ
of_segment n i = cond (once n) [] (bytes " of segment " ++ decimal i)

unfoldable pub field_text : Name → ℕ → ℕ → List ℕ
field_text n f i = spelling n ++ bytes "-" ++ decimal f ++ of_segment n i ++ bytes ": "

unfoldable pub spot_text : Spot → List ℕ
spot_text p = bytes "line " ++ decimal p.line ++ bytes ", byte " ++ decimal p.byte ++ bytes ": "

unfoldable pub place_text : Where → Refusal → Name → Spot → List ℕ
place_text Nowhere r n p = []
place_text AtSpot r n p = spot_text p
place_text AtSegment r n p = bytes "segment " ++ decimal r.segment ++ bytes ": "
place_text AtLine r n p = bytes "line " ++ decimal r.segment ++ bytes ": "
place_text AtField r n p = field_text n r.field r.segment

-- ---- the line, ended by 0A, for a refusal, the name of the segment that it names, and the spot
unfoldable pub refusal_in_words : Refusal → Name → Spot → List ℕ
refusal_in_words r n p = place_text (saying r.kind).tells r n p ++ bytes (words_of r.kind (breach_of n r.field)) ++ (0x0A ∷ [])

-- ---- the same for 50 to 54, with the line of the file
unfoldable pub fault_in_words : FileFault → ℕ → List ℕ
fault_in_words f line = bytes "line " ++ decimal line ++ bytes ": " ++ bytes (fault_words f) ++ (0x0A ∷ [])
