-- Some lines in words, letter by letter: one table under one statement.
use Rattle.std.specs.Prelude.{◌≡◌, refl, List, [], ◌∷◌, ◌++◌, ℕ}
use Prim.Native.String.{String}
use Rattle.rules.specs.declared.Kind.{Kind}
use Rattle.rules.specs.declared.Kind.TheVariants.{TooLong, Bytes, Segment, Order, Null, Long, Value, NoOrdinal, SheetBytes, Key}
use Rattle.rules.specs.declared.Name.{Name}
use Rattle.rules.specs.declared.Name.TheVariants.{Msh, Pid, Spm, Obr, Obx, Other}
use Rattle.rules.specs.Lists.{bytes}
use Rattle.rules.specs.All.{rules}
use Rattle.words.specs.Words.{breach_words, words_of, breach_in, breach_of, read_breach, saying}
use Rattle.in_words.specs.Line.{once, of_segment, field_text, spot_text, place_text, refusal_in_words}

-- a refusal's kind, segment (or line) and field; the segment's name; the spot's line and byte; and the line without its 0A
pub data Edge : Type 0 where
  edge : Kind → ℕ → ℕ → Name → ℕ → ℕ → String → Edge

unfoldable pub Right : Edge → Type 0
Right (edge k i f n l b s) =
    refusal_in_words (record { kind = k; segment = i; field = f }) n (record { line = l; byte = b }) ≡ bytes s ++ (0x0A ∷ [])

unfoldable pub Every : List Edge → Type 0
Every [] = Unit {0}
Every (e ∷ es) = Right e × Every es

unfoldable pub table : List Edge
table =
    edge Value 2 8 Pid 0 0 "PID-8: not one of its words"
    ∷ edge Value 8 5 Obx 0 0 "OBX-5 of segment 8: not a value of its type"
    ∷ edge Value 1 9 Msh 0 0 "MSH-9: not one of its words"
    ∷ edge Value 4 4 Spm 0 0 "SPM-4 of segment 4: not the code and coding system that it takes"
    ∷ edge Value 5 2 Obr 0 0 "OBR-2 of segment 5: not the digits that it takes"
    ∷ edge Value 1 18 Msh 0 0 "MSH-18: not the repetition separator and ISO IR87"
    ∷ edge Value 2 99 Pid 0 0 "PID-99: breaks its rule"
    ∷ edge Null 2 7 Pid 0 0 "PID-7: exactly \"\""
    ∷ edge Long 10 6 Obx 0 0 "OBX-6 of segment 10: too long"
    ∷ edge Order 5 0 Obx 0 0 "segment 5: out of order, or missing"
    ∷ edge Key 12 0 Other 0 0 "line 12: not the key that must stand here"
    ∷ edge Bytes 0 0 Other 3 57 "line 3, byte 57: a byte that is not allowed here, or a shift that is broken off"
    ∷ edge Segment 0 0 Other 2 1 "line 2, byte 1: no segment: a bad name, more than 4,096 bytes, or no 0D at its end"
    ∷ edge SheetBytes 0 0 Other 1 20 "line 1, byte 20: a byte that is not allowed here, a shift that is broken off, or no 0A at the end"
    ∷ edge TooLong 0 0 Other 0 0 "the message has more than 32,768 bytes"
    ∷ edge NoOrdinal 0 0 Other 0 0 "no known segment has this ordinal"
    ∷ []

pub edges : Every table
unfolding rules breach_words words_of Right Every table breach_in breach_of read_breach saying once of_segment field_text spot_text place_text refusal_in_words
edges = (refl, (refl, (refl, (refl, (refl, (refl, (refl, (refl, (refl, (refl, (refl, (refl, (refl, (refl, (refl, (refl, tt))))))))))))))))
