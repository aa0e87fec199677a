-- Places of small texts: one table under one statement.
use Rattle.std.specs.Prelude.{◌≡◌, refl, List, [], ◌∷◌, ◌++◌, ℕ, zero, suc}
use Prim.Native.String.{String}
use Rattle.rules.specs.Lists.{bytes}
use Rattle.rules.specs.All.{rules}
use Rattle.spot.specs.Spot.{is_bad, kept_bytes, good_bytes, place_at, spot_of}

-- a refusal's number, a text, and the line and byte of its place
pub data Edge : Type 0 where
  edge : ℕ → String → ℕ → ℕ → Edge
  longer : ℕ → String → ℕ → ℕ → ℕ → Edge  -- the text with so many spaces and 0D after it

unfoldable pub spaces : ℕ → List ℕ
spaces zero = []
spaces (suc n) = 0x20 ∷ spaces n

unfoldable pub Right : Edge → Type 0
Right (edge n s line byte) = spot_of n (bytes s) ≡ record { line = line; byte = byte }
Right (longer n s k line byte) = spot_of n (bytes s ++ spaces k ++ bytes "\r") ≡ record { line = line; byte = byte }

unfoldable pub Every : List Edge → Type 0
Every [] = Unit {0}
Every (e ∷ es) = Right e × Every es

unfoldable pub table : List Edge
table =
    -- a byte that is not allowed; 0A in a message; 0D in a sheet
    edge 12 "a\u{80}" 1 2
    ∷ edge 12 "a\rbc\nd\r" 2 5
    ∷ edge 41 "a\nbc\r\nd\n" 2 5
    -- a blank in two-byte mode; the wrong way back; an open shift, whose place is behind the last byte
    ∷ edge 12 "a\r\u{1b}$BF| \u{1b}(B\r" 2 8
    ∷ edge 12 "a\r\u{1b}$BF|\u{1b}(J\r" 2 10
    ∷ edge 12 "a\r\u{1b}$BF|" 2 8
    -- no final 0A
    ∷ edge 41 "a\nbc" 2 5
    -- a bad name, in the second line and in the first; no field separator after it; no final 0D
    ∷ edge 13 "MSH|^~\\&|\rPid|1\rPV1\r" 2 11
    ∷ edge 13 "msh|^~\\&|\rPid|1\r" 1 1
    ∷ edge 13 "MSH|^~\\&|\rPID^1\r" 2 11
    ∷ edge 13 "MSH|^~\\&|\rPID|1\rPV1" 3 17
    -- segments of 4,096 and 4,097 bytes
    ∷ longer 13 "MSH|^~\\&|\rPID|" 4092 3 4108
    ∷ longer 13 "MSH|^~\\&|\rPID|" 4093 2 11
    -- an empty text, and one too short to name a field separator
    ∷ edge 12 "" 1 1
    ∷ edge 13 "" 1 1
    ∷ edge 41 "" 1 1
    ∷ edge 13 "MSH\rPI\r" 2 5
    -- the other refusals
    ∷ edge 11 "" 0 0
    ∷ edge 40 "\u{80}" 0 0
    ∷ []

pub edges : Every table
unfolding rules is_bad kept_bytes good_bytes place_at spot_of spaces Right Every table
edges = (refl, (refl, (refl, (refl, (refl, (refl, (refl, (refl, (refl, (refl, (refl, (refl, (refl, (refl, (refl, (refl, (refl, (refl, (refl, tt)))))))))))))))))))
