-- The reader of `Quote` reads exactly what the paper's sentence spells. Assumes nothing.
use mathlib.Core.Path.{◌≡◌, refl, sym, ap, ◌∙◌}
use mathlib.Core.Bool.{false}
use mathlib.Core.List.{List, [], ◌∷◌, ◌++◌, map, append_assoc, append-nil}
use Prim.Native.Nat.{ℕ, suc}
use native.Mathlib.Omega.{arith}
use borrow.Author.Tests.{eqb-true}
use lib.Dec.{eqb}
use Rattle.rules.specs.Lists.{onto, join, led}
use Rattle.rules.proofs.Logic.{cases, never}
use Rattle.csv_rules.specs.Quote.{Stand, Begins, Comma, Inside, Quote, Cr, Items, Lines, end, broken, line, more, lines_at, cut, is_broken, lines_in}
use Rattle.csv_rules.specs.Written.{quotes_doubled, quoted, quoted_line, Spells, nothing, unended, ended}
use Rattle.csv_rules.specs.Claims.{items_in, SpelledIsRead, ReadIsSpelled}

-- ---- what is spelled is read
-- some lines whose first has these items, and whose others are these
record Is (c : Lines) (is : Items) (ls : Lines) : Type 0 where
  size : ℕ
  are : c ≡ line is size ls

one_more : (f : Items → Items) (c : Lines) (is : Items) (ls : Lines) → Is c is ls → Is (more f c) (f is) ls
unfolding more
one_more f c is ls I = record { size = suc I.size; are = rw I.are }

inside-doubled : (i z : List ℕ) (is : Items) (ls : Lines) → Is (lines_at Quote z) ([] ∷ is) ls → Is (lines_at Inside (quotes_doubled i ++ z)) (i ∷ is) ls
unfolding quotes_doubled lines_at onto
inside-doubled [] z is ls I = one_more (λ x. x) (lines_at Quote z) ([] ∷ is) ls I
inside-doubled (b ∷ i) z is ls I =
    let c = lines_at Inside (quotes_doubled i ++ z) in
    let J = inside-doubled i z is ls I in
    cases (eqb b 0x22)
    (λ e. let q = eqb-true b 0x22 e in rw (e, quotes_doubled, q) (one_more (λ x. x) (more (onto 0x22) c) ((0x22 ∷ i) ∷ is) ls (one_more (onto 0x22) c (i ∷ is) ls J)))
    (λ e. rw (e, quotes_doubled, e, lines_at) (one_more (onto b) c (i ∷ is) ls J))

-- the items after one, and what follows them
quote-led : (is : Items) (t : List ℕ) (ls : Lines) → Is (lines_at Quote t) ([] ∷ []) ls → Is (lines_at Quote (led 0x2C (map quoted is) ++ t)) ([] ∷ is) ls
unfolding lines_at led quoted
quote-led [] t ls I = I
quote-led (i ∷ is) t ls I =
    let z = led 0x2C (map quoted is) ++ t in
    let c = lines_at Inside (quotes_doubled i ++ z) in
    let J : Is c (i ∷ is) ls = inside-doubled i z is ls (quote-led is t ls I) in
    rw (append_assoc (quotes_doubled i) (led 0x2C (map quoted is)) t)
    (one_more (λ (x : Items). [] ∷ x) (more (λ x. x) c) (i ∷ is) ls (one_more (λ x. x) c (i ∷ is) ls J))

line_read : (i : List ℕ) (is : Items) (t : List ℕ) (ls : Lines) → Is (lines_at Quote t) ([] ∷ []) ls → Is (cut (quoted_line (i ∷ is) ++ t)) (i ∷ is) ls
unfolding cut lines_at quoted_line join quoted
line_read i is t ls I =
    let z = led 0x2C (map quoted is) ++ t in
    rw (append_assoc (quotes_doubled i) (led 0x2C (map quoted is)) t)
    (one_more (λ x. x) (lines_at Inside (quotes_doubled i ++ z)) (i ∷ is) ls (inside-doubled i z is ls (quote-led is t ls I)))

-- the end of a line: with CR LF, and without at the end of the file
ends-here : Is (lines_at Quote []) ([] ∷ []) end
unfolding lines_at
ends-here = record { size = 0; are = refl }

ends-line : (s : List ℕ) → Is (lines_at Quote (0x0D ∷ 0x0A ∷ s)) ([] ∷ []) (cut s)
unfolding cut lines_at more
ends-line s = record { size = 2; are = refl }

as_read : (c : Lines) (i : List ℕ) (is : Items) (rest : Lines) (ls : List Items) → Is c (i ∷ is) rest → is_broken rest ≡ false → items_in rest ≡ ls
    → (is_broken c ≡ false) × (items_in c ≡ (i ∷ is) ∷ ls)
unfolding is_broken lines_in
as_read c i is rest ls I b e = (rw I.are b, rw I.are (ap (λ (x : List Items). (i ∷ is) ∷ x) e))

pub spelled-is-read : SpelledIsRead
unfolding cut lines_at is_broken lines_in
spelled-is-read ls s nothing = (refl, refl)
spelled-is-read ls s (unended i is) =
    as_read (cut (quoted_line (i ∷ is))) i is end [] (rw (append-nil (quoted_line (i ∷ is))) at (line_read i is [] end ends-here)) refl refl
spelled-is-read ls s (ended i is ms t S) =
    let R = spelled-is-read ms t S in
    as_read (cut (quoted_line (i ∷ is) ++ (0x0D ∷ 0x0A ∷ t))) i is (cut t) ms (line_read i is (0x0D ∷ 0x0A ∷ t) (cut t) (ends-line t)) R.0 R.1

-- ---- what is read is spelled
-- what follows a line's items: nothing, or CR LF and the other lines
data Ends : List ℕ → Lines → Type 0 where
  last : Ends [] end
  crlf : (s : List ℕ) → Ends (0x0D ∷ 0x0A ∷ s) (cut s)

-- x is the rest of an item with its closing quote, the items after it, and what follows
record Found (x : List ℕ) (is : Items) (ls : Lines) : Type 0 where
  item : List ℕ
  later : Items
  follows : List ℕ
  are : is ≡ item ∷ later
  text : x ≡ quotes_doubled item ++ (led 0x2C (map quoted later) ++ follows)
  ends : Ends follows ls

-- what a reader has met, by where it stands
unfoldable Met : Stand → List ℕ → Items → Lines → Type 0
Met Begins s is ls = (z : List ℕ) × (s ≡ 0x22 ∷ z) × Found z is ls
Met Comma s is ls = (z : List ℕ) × (s ≡ 0x22 ∷ z) × Found z is ls
Met Inside s is ls = Found s is ls
Met Quote s is ls = Found (0x22 ∷ s) is ls
Met Cr s is ls = (is ≡ [] ∷ []) × Ends (0x0D ∷ s) ls

no_line : {P : Type 0} {is : Items} {n : ℕ} {ls : Lines} → broken ≡ line is n ls → P
no_line h = let z : ◌≡◌ {A = ℕ} 0 1 = cc in absurd (omega arith)

not_end : {P : Type 0} {is : Items} {n : ℕ} {ls : Lines} → end ≡ line is n ls → P
not_end h = let z : ◌≡◌ {A = ℕ} 0 1 = cc in absurd (omega arith)

-- a byte less
less : {P : Type 0} (f : Items → Items) (c : Lines) (is : Items) (n : ℕ) (ls : Lines) → more f c ≡ line is n ls
    → ((js : Items) (k : ℕ) → c ≡ line js k ls → is ≡ f js → P) → P
unfolding more
less f end is n ls h g = no_line h
less f broken is n ls h g = no_line h
less f (line js k ms) is n ls h g =
    let e : f js ≡ is = cc in
    let m : ms ≡ ls = cc in
    g js k (ap (line js k) m) (sym e)

-- a byte b of an item
found-byte : (b : ℕ) (x : List ℕ) (js is : Items) (ls : Lines) → eqb b 0x22 ≡ false → is ≡ onto b js → Found x js ls → Found (b ∷ x) is ls
unfolding onto quotes_doubled
found-byte b x js is ls e q F =
    record {
      item = b ∷ F.item;
      later = F.later;
      follows = F.follows;
      are = q ∙ ap (onto b) F.are;
      text = rw (e, quotes_doubled) (ap (λ (z : List ℕ). b ∷ z) F.text);
      ends = F.ends;
    }

-- two quotes are one
found-quote : (x : List ℕ) (js is : Items) (ls : Lines) → is ≡ onto 0x22 js → Found x js ls → Found (0x22 ∷ 0x22 ∷ x) is ls
unfolding onto quotes_doubled
found-quote x js is ls q F =
    record {
      item = 0x22 ∷ F.item;
      later = F.later;
      follows = F.follows;
      are = q ∙ ap (onto 0x22) F.are;
      text = ap (λ (z : List ℕ). 0x22 ∷ 0x22 ∷ z) F.text;
      ends = F.ends;
    }

-- an item is closed and another begins
found-comma : (z : List ℕ) (js is : Items) (ls : Lines) → is ≡ [] ∷ js → Found z js ls → Found (0x22 ∷ 0x2C ∷ 0x22 ∷ z) is ls
unfolding quotes_doubled led quoted
found-comma z js is ls q F =
    record {
      item = [];
      later = F.item ∷ F.later;
      follows = F.follows;
      are = q ∙ ap (λ (x : Items). [] ∷ x) F.are;
      text = ap (λ (x : List ℕ). 0x22 ∷ 0x2C ∷ 0x22 ∷ x) (F.text ∙ sym (append_assoc (quotes_doubled F.item) (led 0x2C (map quoted F.later)) F.follows));
      ends = F.ends;
    }

-- the last item of a line is closed
found-last : (t : List ℕ) (is : Items) (ls : Lines) → is ≡ [] ∷ [] → Ends t ls → Found (0x22 ∷ t) is ls
unfolding quotes_doubled led
found-last t is ls q E = record { item = []; later = []; follows = t; are = q; text = refl; ends = E }

met : (a : Stand) (s : List ℕ) (is : Items) (n : ℕ) (ls : Lines) → lines_at a s ≡ line is n ls → Met a s is ls
unfolding Met cut lines_at
met Begins [] is n ls h = not_end h
met Comma [] is n ls h = no_line h
met Inside [] is n ls h = no_line h
met Quote [] is n ls h = let e : [] ∷ [] ≡ is = cc in let l : end ≡ ls = cc in found-last [] is ls (sym e) (rw (← l) last)
met Cr [] is n ls h = no_line h
met Begins (b ∷ s) is n ls h =
    cases (eqb b 0x22)
    (λ e. less (λ x. x) (lines_at Inside s) is n ls (rw (e, lines_at) at h) (λ js k g q. (s, ap (λ (x : ℕ). x ∷ s) (eqb-true b 0x22 e), rw q (met Inside s js k ls g))))
    (λ e. no_line (rw (e, lines_at) at h))
met Comma (b ∷ s) is n ls h =
    cases (eqb b 0x22)
    (λ e. less (λ x. x) (lines_at Inside s) is n ls (rw (e, lines_at) at h) (λ js k g q. (s, ap (λ (x : ℕ). x ∷ s) (eqb-true b 0x22 e), rw q (met Inside s js k ls g))))
    (λ e. no_line (rw (e, lines_at) at h))
met Inside (b ∷ s) is n ls h =
    cases (eqb b 0x22)
    (λ e. less (λ x. x) (lines_at Quote s) is n ls (rw (e, lines_at) at h) (λ js k g q. rw (eqb-true b 0x22 e, q) (met Quote s js k ls g)))
    (λ e. less (onto b) (lines_at Inside s) is n ls (rw (e, lines_at) at h) (λ js k g q. found-byte b s js is ls e q (met Inside s js k ls g)))
met Quote (b ∷ s) is n ls h =
    cases (eqb b 0x22)
    (λ e.
    let z = eqb-true b 0x22 e in
    less (onto b) (lines_at Inside s) is n ls (rw (e, lines_at) at h) (λ js k g q. rw z (found-quote s js is ls (rw z at q) (met Inside s js k ls g))))
    (λ e.
    cases (eqb b 0x2C)
    (λ f.
    less (λ x. [] ∷ x) (lines_at Comma s) is n ls (rw (e, f, lines_at) at h)
    (λ js k g q. let M = met Comma s js k ls g in rw (eqb-true b 0x2C f, M.1) (found-comma M.0 js is ls q M.2)))
    (λ f.
    cases (eqb b 0x0D)
    (λ c.
    less (λ x. x) (lines_at Cr s) is n ls (rw (e, f, c, lines_at) at h)
    (λ js k g q. let M = met Cr s js k ls g in rw (eqb-true b 0x0D c) (found-last (0x0D ∷ s) is ls (q ∙ M.0) M.1)))
    (λ c. no_line (rw (e, f, c, lines_at) at h))))
met Cr (b ∷ s) is n ls h =
    cases (eqb b 0x0A)
    (λ e.
    let g : line ([] ∷ []) 1 (cut s) ≡ line is n ls = rw (e, lines_at) at h in
    let i : [] ∷ [] ≡ is = cc in
    let l : cut s ≡ ls = cc in
    (sym i, rw (eqb-true b 0x0A e, ← l) (crlf s)))
    (λ e. no_line (rw (e, lines_at) at h))

-- the first line of a file, and what follows it
record Line-of (s : List ℕ) (is : Items) (ls : Lines) : Type 0 where
  item : List ℕ
  later : Items
  follows : List ℕ
  are : is ≡ item ∷ later
  text : s ≡ quoted_line (item ∷ later) ++ follows
  ends : Ends follows ls

line_of : (s : List ℕ) (is : Items) (n : ℕ) (ls : Lines) → cut s ≡ line is n ls → Line-of s is ls
unfolding cut Met quoted_line join quoted
line_of s is n ls h =
    let M = met Begins s is n ls h in
    let F = M.2 in
    record {
      item = F.item;
      later = F.later;
      follows = F.follows;
      are = F.are;
      text = M.1 ∙ ap (λ (x : List ℕ). 0x22 ∷ x) (F.text ∙ sym (append_assoc (quotes_doubled F.item) (led 0x2C (map quoted F.later)) F.follows));
      ends = F.ends;
    }

-- nothing is read of nothing alone
more-lines : {P : Type 0} (f : Items → Items) (c : Lines) → more f c ≡ end → P
unfolding more
more-lines f end h = let z : ◌≡◌ {A = ℕ} 0 1 = cc in absurd (omega arith)
more-lines f broken h = let z : ◌≡◌ {A = ℕ} 0 1 = cc in absurd (omega arith)
more-lines f (line is n ls) h = let z : ◌≡◌ {A = ℕ} 0 1 = cc in absurd (omega arith)

end_is : (s : List ℕ) → cut s ≡ end → s ≡ []
unfolding cut lines_at
end_is [] h = refl
end_is (b ∷ s) h =
    cases (eqb b 0x22) (λ e. more-lines (λ x. x) (lines_at Inside s) (rw (e, lines_at) at h))
    (λ e. let g : broken ≡ end = rw (e, lines_at) at h in let z : ◌≡◌ {A = ℕ} 0 1 = cc in absurd (omega arith))

spelled-after : (i : List ℕ) (is : Items) (t : List ℕ) (ls : Lines) → Ends t ls → is_broken ls ≡ false
    → ((s : List ℕ) → cut s ≡ ls → is_broken ls ≡ false → Spells (items_in ls) s) → Spells ((i ∷ is) ∷ items_in ls) (quoted_line (i ∷ is) ++ t)
unfolding lines_in
spelled-after i is t ls last b f = rw (append-nil (quoted_line (i ∷ is))) (unended i is)
spelled-after i is t ls (crlf s) b f = ended i is (items_in (cut s)) s (f s refl b)

spelled_as : (s : List ℕ) (is : Items) (ls : Lines) (i : List ℕ) (later : Items) (t : List ℕ) → is ≡ i ∷ later → s ≡ quoted_line (i ∷ later) ++ t
    → Spells ((i ∷ later) ∷ items_in ls) (quoted_line (i ∷ later) ++ t) → Spells (is ∷ items_in ls) s
spelled_as s is ls i later t e f S = rw (e, f) S

spelled : (c : Lines) (s : List ℕ) → cut s ≡ c → is_broken c ≡ false → Spells (items_in c) s
unfolding is_broken lines_in
spelled end s h b = rw (end_is s h) nothing
spelled broken s h b = never b
spelled (line is n ls) s h b =
    let L = line_of s is n ls h in
    spelled_as s is ls L.item L.later L.follows L.are L.text
    (spelled-after L.item L.later L.follows ls L.ends b (λ t e c. spelled ls t e c))

pub read-is-spelled : ReadIsSpelled
read-is-spelled s b = spelled (cut s) s refl b
