-- No name is out of order exactly if the names are those of some specimens, each with its orders and their results. Assumes nothing.
use mathlib.Core.Path.{◌≡◌, refl, sym, ap, ◌∙◌}
use mathlib.Core.Bool.{Bool, true}
use mathlib.Core.List.{List, [], ◌∷◌, ◌++◌, flat_map, append_assoc}
use Prim.Native.Nat.{ℕ, zero, suc}
use native.Mathlib.Omega.{arith}
use borrow.Author.Tests.{le-leb, leb-true}
use lib.Dec.{leb}
use lib.ListN.{replicate}
use Rattle.rules.specs.declared.Name.{Name}
use Rattle.rules.specs.declared.Name.TheVariants.{Msh, Pid, Pv1, Spm, Obr, Orc, Obx, Other}
use Rattle.rules.specs.Lists.{empty, filled, all, any}
use Rattle.rules.specs.Frame.{is, after, Reached, start, past, may_follow, may_end, order_fault}
use Rattle.rules.proofs.Logic.{cases, never}
use Rattle.rules.proofs.Lists.{all_first, all_cons}
use Rattle.rules.proofs.Names.{name-is}
use Rattle.kept.specs.Kept.{order_names, specimen_names, message_names, InOrder}

abbrev pub reached : Name → Reached
reached a = record { last = a }

abbrev all_filled : List (List ℕ) → Bool
all_filled specimens = all (λ (orders : List ℕ). filled orders) specimens

-- ---- from a shape to its names in order
abbrev Goes : Reached → List Name → Type 0
Goes a ns = (i : ℕ) → order_fault a i ns ≡ 0

goes_on_lem : (a : Reached) (g : Name) (ns : List Name) → may_follow a g ≡ true → Goes (past a g) ns → Goes a (g ∷ ns)
unfolding order_fault
goes_on_lem a g ns h f i = rw (h, order_fault) (f (suc i))

results-go : (n : ℕ) (ns : List Name) → Goes (reached Obx) ns → Goes (reached Obx) (replicate n Obx ++ ns)
unfolding may_follow any past
results-go zero ns f = f
results-go (suc n) ns f = goes_on_lem (reached Obx) Obx (replicate n Obx ++ ns) refl (results-go n ns f)

order-goes : (a : Name) (n : ℕ) (ns : List Name) → leb 1 n ≡ true → may_follow (reached a) Obr ≡ true → Goes (reached Obx) ns → Goes (reached a) (order_names n ++ ns)
unfolding may_follow any past order_names
order-goes a zero ns h m f = absurd (omega (arith, leb-true 1 0 h))
order-goes a (suc n) ns h m f = goes_on_lem (reached a) Obr _ m (goes_on_lem (reached Obr) Orc _ refl (goes_on_lem (reached Orc) Obx _ refl (results-go n ns f)))

orders-go : (os : List ℕ) (ns : List Name) → all (leb 1) os ≡ true → Goes (reached Obx) ns → Goes (reached Obx) (flat_map order_names os ++ ns)
unfolding flat_map
orders-go [] ns h f = f
orders-go (o ∷ os) ns h f =
    let s = all_first (leb 1) o os h in
    rw (append_assoc (order_names o) (flat_map order_names os) ns) (order-goes Obx o (flat_map order_names os ++ ns) s.0 (unfold may_follow any in refl) (orders-go os ns s.1 f))

specimen-goes : (a : Name) (os : List ℕ) (ns : List Name) → filled os ≡ true → all (leb 1) os ≡ true → may_follow (reached a) Spm ≡ true → Goes (reached Obx) ns → Goes (reached a) (specimen_names os ++ ns)
unfolding specimen_names flat_map empty past
specimen-goes a [] ns n h m f = never (sym n)
specimen-goes a (o ∷ os) ns n h m f =
    let s = all_first (leb 1) o os h in
    rw (append_assoc (order_names o) (flat_map order_names os) ns)
    (goes_on_lem (reached a) Spm _ m (order-goes Spm o (flat_map order_names os ++ ns) s.0 (unfold may_follow any in refl) (orders-go os ns s.1 f)))

specimens-go : (ss : List (List ℕ)) → all_filled ss ≡ true → all (all (leb 1)) ss ≡ true → Goes (reached Obx) (flat_map specimen_names ss)
unfolding flat_map
specimens-go [] n h = λ i. unfold order_fault may_end in refl
specimens-go (s ∷ ss) n h =
    let p = all_first (λ (orders : List ℕ). filled orders) s ss n in
    let q = all_first (all (leb 1)) s ss h in
    specimen-goes Obx s (flat_map specimen_names ss) p.0 q.0 (unfold may_follow any in refl) (specimens-go ss p.1 q.1)

message-goes : (ss : List (List ℕ)) → filled ss ≡ true → all_filled ss ≡ true → all (all (leb 1)) ss ≡ true → Goes start (message_names ss)
unfolding message_names flat_map may_follow any past empty
message-goes [] l n h = never (sym l)
message-goes (s ∷ ss) l n h =
    let p = all_first (λ (orders : List ℕ). filled orders) s ss n in
    let q = all_first (all (leb 1)) s ss h in
    goes_on_lem start Msh _ refl (goes_on_lem (reached Msh) Pid _ refl (goes_on_lem (reached Pid) Pv1 _ refl
    (specimen-goes Pv1 s (flat_map specimen_names ss) p.0 q.0 refl (specimens-go ss p.1 q.1))))

pub no-fault : (ns : List Name) → InOrder ns → order_fault start 1 ns ≡ 0
no-fault ns o = rw o.names (message-goes o.specimens o.a-specimen o.an-order o.a-result 1)

-- ---- from names in order to their shape
-- what some names leave of the order of a message: results, orders and specimens after the names that are owed
record Left (owed ns : List Name) : Type 0 where
  results : ℕ
  orders : List ℕ
  specimens : List (List ℕ)
  some-results : all (leb 1) orders ≡ true
  an-order : all_filled specimens ≡ true
  a-result : all (all (leb 1)) specimens ≡ true
  names : ns ≡ owed ++ (replicate results Obx ++ (flat_map order_names orders ++ flat_map specimen_names specimens))

-- the names up to a first result
abbrev owed : Name → List Name
owed Other = Msh ∷ Pid ∷ Pv1 ∷ Spm ∷ Obr ∷ Orc ∷ Obx ∷ []
owed Msh = Pid ∷ Pv1 ∷ Spm ∷ Obr ∷ Orc ∷ Obx ∷ []
owed Pid = Pv1 ∷ Spm ∷ Obr ∷ Orc ∷ Obx ∷ []
owed Pv1 = Spm ∷ Obr ∷ Orc ∷ Obx ∷ []
owed Spm = Obr ∷ Orc ∷ Obx ∷ []
owed Obr = Orc ∷ Obx ∷ []
owed Orc = Obx ∷ []
owed Obx = []

paid : (g : Name) (os ns : List Name) → Left os ns → Left (g ∷ os) (g ∷ ns)
paid g os ns t =
    record {
      results = t.results;
      orders = t.orders;
      specimens = t.specimens;
      some-results = t.some-results;
      an-order = t.an-order;
      a-result = t.a-result;
      names = ap (λ (l : List Name). g ∷ l) t.names;
    }

a-result-more : (ns : List Name) → Left [] ns → Left [] (Obx ∷ ns)
a-result-more ns t =
    record {
      results = suc t.results;
      orders = t.orders;
      specimens = t.specimens;
      some-results = t.some-results;
      an-order = t.an-order;
      a-result = t.a-result;
      names = ap (λ (l : List Name). Obx ∷ l) t.names;
    }

some_more : (n : ℕ) (ns : List ℕ) → all (leb 1) ns ≡ true → all (leb 1) (suc n ∷ ns) ≡ true
some_more n ns h = rw (all_cons (leb 1) (suc n) ns, le-leb 1 (suc n) (omega arith)) h

an-order-more : (ns : List Name) → Left (Orc ∷ Obx ∷ []) ns → Left [] (Obr ∷ ns)
unfolding flat_map order_names
an-order-more ns t =
    record {
      results = 0;
      orders = suc t.results ∷ t.orders;
      specimens = t.specimens;
      some-results = some_more t.results t.orders t.some-results;
      an-order = t.an-order;
      a-result = t.a-result;
      names = rw (append_assoc (replicate t.results Obx) (flat_map order_names t.orders) (flat_map specimen_names t.specimens)) (ap (λ (l : List Name). Obr ∷ l) t.names);
    }

a-specimen-more : (ns : List Name) → Left (Obr ∷ Orc ∷ Obx ∷ []) ns → Left [] (Spm ∷ ns)
unfolding flat_map specimen_names order_names all empty
a-specimen-more ns t =
    record {
      results = 0;
      orders = [];
      specimens = (suc t.results ∷ t.orders) ∷ t.specimens;
      some-results = refl;
      an-order = t.an-order;
      a-result = rw (all_cons (all (leb 1)) (suc t.results ∷ t.orders) t.specimens, some_more t.results t.orders t.some-results) t.a-result;
      names = rw (append_assoc (replicate t.results Obx) (flat_map order_names t.orders) (flat_map specimen_names t.specimens)) (ap (λ (l : List Name). Spm ∷ l) t.names);
    }

-- one name, where the names before have led to another
one_of : (g x : Name) (xs : List Name) {P : Type 0} → any (is g) (x ∷ xs) ≡ true → (g ≡ x → P) → (any (is g) xs ≡ true → P) → P
unfolding any
one_of g x xs h f k = cases (is g x) (λ e. f (name-is g x e)) (λ e. k (rw (e, any) at h))

none_of : (g : Name) {P : Type 0} → any (is g) [] ≡ true → P
unfolding any
none_of g h = never (sym h)

only : (g x : Name) (ns : List Name) → any (is g) (x ∷ []) ≡ true → Left (owed g) ns → Left (x ∷ owed x) (g ∷ ns)
only g x ns h t = one_of g x [] h (λ e. let l : Left (owed x) ns = rw e at t in rw e (paid x (owed x) ns l)) (λ k. none_of g k)

one_more : (a g : Name) (ns : List Name) → any (is g) (after a) ≡ true → Left (owed g) ns → Left (owed a) (g ∷ ns)
one_more Other g ns h t = only g Msh ns h t
one_more Msh g ns h t = only g Pid ns h t
one_more Pid g ns h t = only g Pv1 ns h t
one_more Pv1 g ns h t = only g Spm ns h t
one_more Spm g ns h t = only g Obr ns h t
one_more Obr g ns h t = only g Orc ns h t
one_more Orc g ns h t = only g Obx ns h t
one_more Obx g ns h t =
    one_of g Obx _ h (λ e. rw e (a-result-more ns (rw e at t)))
    (λ h. one_of g Obr _ h (λ e. rw e (an-order-more ns (rw e at t)))
    (λ h. one_of g Spm _ h (λ e. rw e (a-specimen-more ns (rw e at t)))
    (λ h. none_of g h)))

-- no name out of order: it may follow, and so may those after it
pub follows : (a g : Name) (i : ℕ) (ns : List Name) → order_fault (reached a) (suc i) (g ∷ ns) ≡ 0 → (any (is g) (after a) ≡ true) × (order_fault (reached g) (suc (suc i)) ns ≡ 0)
unfolding order_fault may_follow past
follows a g i ns h = cases (any (is g) (after a)) (λ e. (e, cc)) (λ e. absurd (let z : ◌≡◌ {A = ℕ} (suc i) 0 = cc in omega arith))

ended : (a : Name) (i : ℕ) → order_fault (reached a) (suc i) [] ≡ 0 → a ≡ Obx
unfolding order_fault may_end
ended a i h = cases (is a Obx) (λ e. name-is a Obx e) (λ e. absurd (let z : ◌≡◌ {A = ℕ} (suc i) 0 = cc in omega arith))

none_left : Left [] []
unfolding all flat_map
none_left = record { results = 0; orders = []; specimens = []; some-results = refl; an-order = refl; a-result = refl; names = refl }

left : (ns : List Name) (a : Name) (i : ℕ) → order_fault (reached a) (suc i) ns ≡ 0 → Left (owed a) ns
left [] a i h = rw (ended a i h) none_left
left (g ∷ ns) a i h = let f = follows a g i ns h in one_more a g ns f.0 (left ns g (suc i) f.1)

pub in_order : (ns : List Name) → order_fault start 1 ns ≡ 0 → InOrder ns
unfolding message_names specimen_names order_names flat_map all empty
in_order ns h =
    let t = left ns Other 0 h in
    record {
      specimens = (suc t.results ∷ t.orders) ∷ t.specimens;
      a-specimen = refl;
      an-order = t.an-order;
      a-result = rw (all_cons (all (leb 1)) (suc t.results ∷ t.orders) t.specimens, some_more t.results t.orders t.some-results) t.a-result;
      names = t.names ∙ rw (append_assoc (replicate t.results Obx) (flat_map order_names t.orders) (flat_map specimen_names t.specimens));
    }
