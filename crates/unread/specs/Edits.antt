-- What document 01 lets alter: "added, removed or altered content in places that the profile doesn't read: segments of other names after the
-- first, unread fields, unread components of fields not listed as closed", under the conditions of "Closed to additions".
-- A message p v q becomes p w q: v is taken out where p ends and w put in. Added: v is empty. Removed: w is.
use Rattle.std.specs.Prelude.{◌≡◌, Bool, true, false, cond, not, ◌&&◌, ◌||◌, List, [], ◌∷◌, ◌++◌, ℕ, suc, eqb, ltb, take, drop}
use Rattle.rules.specs.declared.Delims.{Delims}
use Rattle.rules.specs.declared.Name.{Name}
use Rattle.rules.specs.declared.Name.TheVariants.{Msh, Other}
use Rattle.rules.specs.Lists.{empty, all, has, split, last, front, later, before, since}
use Rattle.rules.specs.Shift.{keeps, met}
use Rattle.rules.specs.Frame.{header_ok, delims_of, segments, name_of, is, here}
use Rattle.rules.specs.Places.{is_closed, unread_field, unread_component}

-- ---- the place where p ends: how many separators stand `before` it, what stands `since` the last of them, and `here` the bytes so far of
-- the segment
-- the number of the field after k separators: 0 is the name; in MSH the first separator is itself field 1
unfoldable pub numbered : Name → ℕ → ℕ
numbered n k = cond (is n Msh) (suc k) k

-- the segment's name, and the field, repetition and component, each from 1
pub record Spot : Type 0 where
  pub name : Name
  pub field : ℕ
  pub repetition : ℕ
  pub component : ℕ

-- after s, the segment so far
unfoldable pub spot_in : Delims → List ℕ → Spot
spot_in d s =
    let field = since d.field (met s) in
    let repetition = since d.repetition field in
    record {
      name = name_of s;
      field = numbered (name_of s) (before d.field (met s));
      repetition = suc (before d.repetition field);
      component = suc (before d.component repetition);
    }

abbrev pub spot : List ℕ → Spot
spot p = spot_in (delims_of p) (here p)

-- p is past the header and ends in one-byte mode, where separators act
unfoldable pub stands : List ℕ → Bool
stands p = header_ok p && keeps 0x0D p

-- it ends in a known segment; in a field of one; in a field that isn't closed
unfoldable pub in_segment : Spot → Bool
in_segment x = not (is x.name Other)

unfoldable pub in_field : Spot → Bool
in_field x = in_segment x && not (eqb x.field 0)

unfoldable pub in_open_field : Spot → Bool
in_open_field x = in_field x && not (is_closed x.name x.field)

-- a component of that field is unread; in a repetition after the first, all are
unfoldable pub unread_at : Spot → ℕ → Bool
unread_at x c = ltb 1 x.repetition || unread_component x.name x.field c

-- ---- what may stand there
-- "holds no 0D, .. and keeps the byte and shift rule by itself, from one-byte mode back to one-byte mode"; and none of some separators
-- "in one-byte mode"
unfoldable pub may_stand : List ℕ → List ℕ → Bool
may_stand seps v = keeps 0x0D v && not (has 0x0D v) && all (λ (x : ℕ). not (has x (met v))) seps

-- q begins with one of some bytes
unfoldable pub begins : List ℕ → List ℕ → Bool
begins seps [] = false
begins seps (e ∷ q) = has e seps

-- any number of segments of other names, each with its 0D
abbrev pub other_segment : List ℕ → Bool
other_segment s = is (name_of s) Other

unfoldable pub others : List ℕ → Bool
others v = empty (last (split 0x0D v)) && all other_segment (segments v)

-- "an unread field no field separator"
unfoldable pub field_bytes : Delims → List ℕ → Bool
field_bytes d v = may_stand (d.field ∷ []) v

-- any number of pieces, the first with the number i: each unread, or empty as it was when it was missing
unfoldable pub unread_from : (ℕ → Bool) → ℕ → List (List ℕ) → Bool
unread_from un i [] = true
unread_from un i (x ∷ xs) = (un i || empty x) && unread_from un (suc i) xs

-- any number of fields, each after its separator, after the field with the number f
unfoldable pub new_fields : Delims → Name → ℕ → List ℕ → Bool
new_fields d n f v = may_stand [] v && empty (front d.field (met v)) && unread_from (unread_field n) (suc f) (later d.field (met v))

-- "an altered unread component holds no field, component or repetition separator"
unfoldable pub component_bytes : Delims → List ℕ → Bool
component_bytes d v = may_stand (d.field ∷ (d.component ∷ (d.repetition ∷ []))) v

-- any number of components, each after its separator
unfoldable pub new_components : Delims → Spot → List ℕ → Bool
new_components d x v =
    may_stand (d.field ∷ (d.repetition ∷ [])) v && empty (front d.component (met v))
    && unread_from (unread_at x) (suc x.component) (later d.component (met v))

-- ---- the edits
-- segments of other names, where a segment starts
unfoldable pub segment_edit : List ℕ → List ℕ → List ℕ → Bool
segment_edit p v w = empty (here p) && others v && others w

-- within an unread field; fields at the end of a known segment
unfoldable pub field_edit : Delims → Spot → List ℕ → List ℕ → Bool
field_edit d x v w = in_field x && unread_field x.name x.field && field_bytes d v && field_bytes d w

unfoldable pub fields_edit : Delims → Spot → List ℕ → List ℕ → List ℕ → Bool
fields_edit d x v w q =
    in_segment x && new_fields d x.name x.field v && new_fields d x.name x.field w && begins (0x0D ∷ []) q

-- within an unread component; components at the end of a field that isn't closed, or of one of its repetitions
unfoldable pub component_edit : Delims → Spot → List ℕ → List ℕ → Bool
component_edit d x v w = in_open_field x && unread_at x x.component && component_bytes d v && component_bytes d w

unfoldable pub components_edit : Delims → Spot → List ℕ → List ℕ → List ℕ → Bool
components_edit d x v w q =
    in_open_field x && new_components d x v && new_components d x w && begins (0x0D ∷ (d.field ∷ (d.repetition ∷ []))) q

unfoldable pub unread : List ℕ → List ℕ → List ℕ → List ℕ → Bool
unread p v w q =
    let d = delims_of p in
    let x = spot p in
    stands p && (segment_edit p v w || (field_edit d x v w || (fields_edit d x v w q || (component_edit d x v w || components_edit d x v w q))))

pub data Edit : List ℕ → List ℕ → Type 0 where
  edit : (p v w q : List ℕ) → unread p v w q ≡ true → Edit (p ++ (v ++ q)) (p ++ (w ++ q))

-- any number of them
pub data Edits : List ℕ → List ℕ → Type 0 where
  none : {m : List ℕ} → Edits m m
  next : {m n o : List ℕ} → Edit m n → Edits n o → Edits m o

-- ---- the same by places: after so many bytes, so many are taken out and these put in
pub record Change : Type 0 where
  pub at : ℕ
  pub out : ℕ
  pub put : List ℕ

unfoldable pub changed : Change → List ℕ → List ℕ
changed c m = take c.at m ++ (c.put ++ drop c.out (drop c.at m))

unfoldable pub changed_all : List Change → List ℕ → List ℕ
changed_all [] m = m
changed_all (c ∷ cs) m = changed_all cs (changed c m)

-- each in an unread place
unfoldable pub unread_all : List Change → List ℕ → Bool
unread_all [] m = true
unread_all (c ∷ cs) m =
    unread (take c.at m) (take c.out (drop c.at m)) c.put (drop c.out (drop c.at m)) && unread_all cs (changed c m)
