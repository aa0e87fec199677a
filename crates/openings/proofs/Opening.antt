-- The group that a line opens, and the group to be read next. Assumes nothing.
use mathlib.Core.Path.{◌≡◌, refl, sym, ap, ◌∙◌}
use mathlib.Core.Logic.{◌⊎◌, inl, inr}
use mathlib.Core.Bool.{Bool, true, false, cond}
use mathlib.Core.List.{List, [], ◌∷◌, ◌++◌}
use Prim.Native.Nat.{ℕ, ◌+◌, ◌≤◌, ◌<◌}
use native.Mathlib.Omega.{arith}
use lib.ListN.{length, take, drop}
use Rattle.std.specs.Str.{bytes_eq}
use Rattle.rules.specs.declared.Name.{Name}
use Rattle.rules.specs.declared.Name.TheVariants.{Msh, Pid, Pv1, Spm, Obr, Orc, Obx, Other}
use Rattle.rules.specs.Told.{gives, refused, ◌>>=◌}
use Rattle.rules.specs.Lists.{bytes, nth, starts, any}
use Rattle.rules.specs.Frame.{is, known_names, after, Reached, start, past, may_follow}
use Rattle.rules.specs.Row.{line, lines, row_of}
use Rattle.rules.specs.Sheet.{key_of, line_told, opens, opened_by, open_told, group_told, past_group, rows_told}
use Rattle.rules.proofs.Logic.{cases, told_cases, list_cases, zero_cases, never}
use Rattle.rules.proofs.Lists.{starts-eq}
use Rattle.rules.proofs.Names.{in_names, name-is}
use Rattle.rules.proofs.Rows.{entered}
use Rattle.order.specs.declared.Reached.{Reached as Coded}
use Rattle.order.specs.Order.{reached_of}
use Rattle.openings.specs.Openings.{Between, Next}
use Rattle.lines.proofs.Laws.{starts_is}
use Rattle.groups.proofs.Reading.{group-there}

-- ---- the group that a line opens
opened-by : (g : Name) (k t : List ℕ) → ((w : List ℕ) → opened_by known_names (k ++ w) ≡ g) → starts k t ≡ true → opened_by known_names t ≡ g
opened-by g k t f h = ap (opened_by known_names) (starts-eq k t h) ∙ f (drop (length k) t)

-- no two groups have the same first key
opened-is : (g : Name) (t : List ℕ) → opens g t ≡ true → opened_by known_names t ≡ g
unfolding opens opened_by known_names lines line key_of bytes starts
opened-is Msh t h = opened-by Msh (bytes "version=") t (λ w. refl) h
opened-is Pid t h = opened-by Pid (bytes "patient=") t (λ w. refl) h
opened-is Pv1 t h = opened-by Pv1 (bytes "class=") t (λ w. refl) h
opened-is Spm t h = opened-by Spm (bytes "specimen=") t (λ w. refl) h
opened-is Obr t h = opened-by Obr (bytes "order=") t (λ w. refl) h
opened-is Orc t h = never (sym h)
opened-is Obx t h = opened-by Obx (bytes "item=") t (λ w. refl) h
opened-is Other t h = never (sym h)

opens-it : (gs : List Name) (t : List ℕ) → is (opened_by gs t) Other ≡ false → opens (opened_by gs t) t ≡ true
unfolding opened_by
opens-it [] t h = never h
opens-it (g ∷ gs) t h = cases (opens g t) (λ e. rw (e, opened_by) e) (λ e. rw (e, opened_by) (opens-it gs t (rw (e, opened_by) at h)))

-- ---- a line that opens none of those that may follow
among : (gs : List Name) (h : Name) (t : List ℕ) → any (is h) gs ≡ true → opens h t ≡ true → any (λ (x : Name). opens x t) gs ≡ true
unfolding any
among [] h t m o = m
among (g ∷ gs) h t m o =
    cases (opens g t)
    (λ e. rw (e, any))
    (λ e. rw (e, any)
    (cases (is h g)
    (λ f. never (sym o ∙ ap (λ (x : Name). opens x t) (name-is h g f) ∙ e))
    (λ f. among gs h t (rw (f, any) at m) o)))

none_after : (n : Name) → any (is Other) (after n) ≡ false
unfolding any
none_after n = in_names (λ n. any (is Other) (after n) ≡ false) refl refl refl refl refl refl refl refl n

module _ (a : Reached) (t : List ℕ) where
  shut : any (λ (x : Name). opens x t) (after a.last) ≡ false → may_follow a (opened_by known_names t) ≡ false
  unfolding may_follow
  shut h =
      let g = opened_by known_names t in
      cases (is g Other)
      (λ e. rw (name-is g Other e) (none_after a.last))
      (λ e. cases (any (is g) (after a.last)) (λ f. never (sym (among (after a.last) g t f (opens-it known_names t e)) ∙ h)) (λ f. f))

  next-told : (g : Name) → may_follow a g ≡ true → (opens g t ≡ false → any (λ (x : Name). opens x t) (after a.last) ≡ false)
      → (i : ℕ) → open_told a i t ≡ cond (opens g t) (gives g) (refused 42 i 0)
  unfolding open_told
  next-told g m s i = cases (opens g t) (λ e. rw (e, opened-is g t e, m)) (λ e. rw (e, shut (s e)))

  -- where one alone may follow
  alone : (x g : Name) → after x ≡ g ∷ [] → is g g ≡ true → 1 ≤ length (lines g) → a.last ≡ x → Next a t g
  unfolding may_follow any
  alone x g f q l e = record { told = next-told g (rw (e, f, q, any)) (λ o. rw (e, f, o, any)); lined = l }

  pub first-header : a.last ≡ Other → Next a t Msh
  unfolding lines
  first-header = alone Other Msh refl refl (omega arith)

  pub then-patient : a.last ≡ Msh → Next a t Pid
  unfolding lines
  then-patient = alone Msh Pid refl refl (omega arith)

  pub then-visit : a.last ≡ Pid → Next a t Pv1
  unfolding lines
  then-visit = alone Pid Pv1 refl refl (omega arith)

  pub then-specimen : a.last ≡ Pv1 → Next a t Spm
  unfolding lines
  then-specimen = alone Pv1 Spm refl refl (omega arith)

  pub then-order : a.last ≡ Spm → Next a t Obr
  unfolding lines
  then-order = alone Spm Obr refl refl (omega arith)

  pub then-result : a.last ≡ Orc → Next a t Obx
  unfolding lines
  then-result = alone Orc Obx refl refl (omega arith)

  -- behind an OBR stands its ORC, and no group
  pub then-none : Between a → a.last ≡ Obr → Next a t Obx
  then-none b e = never (rw e at b)

  -- the code has one arm for both
  pub then-either : Between a → (a.last ≡ Obr) ⊎ (a.last ≡ Orc) → Next a t Obx
  then-either b (inl e) = then-none b e
  then-either b (inr e) = then-result e

-- ---- behind a result
module _ (t : List ℕ) (q : Bool) (e : q ≡ bytes_eq (105 ∷ 116 ∷ 101 ∷ 109 ∷ 61 ∷ []) (take 5 t)) where
  item-opens : opens Obx t ≡ q
  unfolding opens lines line key_of bytes
  item-opens = sym (e ∙ starts_is (105 ∷ 116 ∷ 101 ∷ 109 ∷ 61 ∷ []) t)

  pub behind-item : q ≡ true → Next (past start Obx) t Obx
  unfolding past may_follow any lines
  behind-item h = record { told = next-told (past start Obx) t Obx refl (λ o. never (sym (item-opens ∙ h) ∙ o)); lined = omega arith }

  module _ (h : q ≡ false) (u : Bool) (f : u ≡ bytes_eq (111 ∷ 114 ∷ 100 ∷ 101 ∷ 114 ∷ 61 ∷ []) (take 6 t)) where
    order-opens : opens Obr t ≡ u
    unfolding opens lines line key_of bytes
    order-opens = sym (f ∙ starts_is (111 ∷ 114 ∷ 100 ∷ 101 ∷ 114 ∷ 61 ∷ []) t)

    pub behind-order : u ≡ true → Next (past start Obx) t Obr
    unfolding past may_follow any lines
    behind-order g = record { told = next-told (past start Obx) t Obr refl (λ o. never (sym (order-opens ∙ g) ∙ o)); lined = omega arith }

    pub behind-neither : u ≡ false → Next (past start Obx) t Spm
    unfolding past may_follow any lines
    behind-neither g = record { told = next-told (past start Obx) t Spm refl (λ o. rw (item-opens, h, order-opens, g, o, any)); lined = omega arith }

pub then-any : (a : Coded) (l t : List ℕ) (g : Name) → a.last ≡ Obx → l ≡ t → Next (past start Obx) l g → Next (reached_of a) t g
unfolding past
then-any a l t g e f n = rw (e, ← f) n

-- ---- where a group leads
pub between-past : (a : Reached) (g : Name) → Between (past_group a g)
unfolding past_group past
between-past a g = cases (is g Obr) (λ e. rw e) (λ e. rw e e)

module _ (a : Reached) (n : Name) (q : Bool) (r : Reached) (e : q ≡ is n Obr) where
  pub past-order : q ≡ true → (b : Reached) → b ≡ past a Obr → r ≡ past b Orc → r ≡ past_group a n
  unfolding past_group
  past-order h b f g = g ∙ rw (f, ← e, h)

  pub past-other : q ≡ false → r ≡ past a n → r ≡ past_group a n
  unfolding past_group
  past-other h g = g ∙ rw (← e, h)

-- ---- the rows, from a group to the next
wrong-key : (g : Name) (i : ℕ) (t : List ℕ) (ts : List (List ℕ)) → 1 ≤ length (lines g) → opens g t ≡ false → group_told (lines g) [] i (t ∷ ts) ≡ refused 42 i 0
unfolding opens group_told line_told
wrong-key g i t ts l o = list_cases (lines g) (λ e. absurd (omega (arith, ap length e))) (λ x xs e. rw e (let s : starts (key_of x) t ≡ false = rw (e, opens) at o in rw s))

not_opened : (a : Reached) (i : ℕ) (t : List ℕ) (ts : List (List ℕ)) → open_told a i t ≡ refused 42 i 0 → rows_told a 0 i (t ∷ ts) ≡ refused 42 i 0
unfolding rows_told
not_opened a i t ts o = rw o

not-read : (a : Reached) (g : Name) (i m s k : ℕ) (t : List ℕ) (ts : List (List ℕ)) → open_told a i t ≡ gives g → group_told (lines g) [] i (t ∷ ts) ≡ refused m s k
    → rows_told a 0 i (t ∷ ts) ≡ refused m s k
unfolding rows_told
not-read a g i m s k t ts o f = rw (o, f)

pub rows_on : (a : Reached) (g : Name) (i : ℕ) (ts : List (List ℕ)) → 0 < length ts → Next a (nth ts 0) g
    → rows_told a 0 i ts ≡ (group_told (lines g) [] i ts >>= λ vs. rows_told (past_group a g) 0 (i + length (lines g)) (drop (length (lines g)) ts) >>= λ rows. gives (row_of g vs ++ rows))
rows_on a g i [] h n = absurd (omega arith)
rows_on a g i (t ∷ ts) h n =
    cases (opens g t)
    (λ e.
    let o : open_told a i t ≡ gives g = rw e at (n.told i) in
    told_cases (group_told (lines g) [] i (t ∷ ts))
    (λ vs f. zero_cases (length (lines g)) (λ z. absurd (omega (arith, n.lined, z)))
    (λ k l. rw (f, l) (entered a g vs i k t ts o f l (omega (arith, group-there (lines g) [] i (t ∷ ts) vs f)))))
    (λ m s k f. rw f (not-read a g i m s k t ts o f)))
    (λ e. rw (wrong-key g i t ts n.lined e) (not_opened a i t ts (rw e at (n.told i))))
