-- Laws of a segment by its name. Assumes nothing.
use Prim.Native.Nat.{ℕ}
use mathlib.Core.Path.{◌≡◌, refl, sym, ap, ◌∙◌}
use mathlib.Core.Bool.{false}
use mathlib.Core.List.{List}
use Rattle.std.specs.declared.result.Result.{Result}
use Rattle.std.specs.declared.result.Result.TheVariants.{Ok, Err}
use Rattle.std.specs.Result.{IfOk, result_and}
use Rattle.rules.specs.declared.Delims.{Delims}
use Rattle.rules.specs.declared.Name.{Name}
use Rattle.rules.specs.declared.Name.TheVariants.{Obr, Other}
use Rattle.rules.specs.Frame as Frame
use Rattle.rules.specs.Shift.{met}
use Rattle.rules.specs.Places.{places}
use Rattle.rules.specs.View.{segment_of}
use Rattle.rules.specs.Check.{Context, fault_told, parts_told, context_after}
use Rattle.fields.specs.declared.FieldFault.{FieldFault}
use Rattle.fields.specs.Segment.{as_known, said, FoundIn}
use Rattle.specimen.specs.Specimen.{order_number}

module _ {name n : Name} (e : name ≡ n) where
  module _ {d : Delims} {x : Context} {body : List ℕ} where
    pub named-found : {A : Type 0} {r : Result A FieldFault} → FoundIn n d x body r → FoundIn name d x body r
    named-found y = rw e y

    -- whatever stands beside it
    pub named-and : {A B : Type 0} (r : Result A FieldFault) (o : B) (q : Result B FieldFault) → FoundIn n d x body r → q ≡ result_and r (Ok o) → FoundIn name d x body q
    named-and (Ok a) o q y h = rw (e, h) (record { told = y.told })
    named-and (Err k) o q y h = rw (e, h) (record { told = y.told })

  -- an OBR's own order number, and no other
  pub same-order : (d : Delims) (order body : List ℕ) → Frame.is n Obr ≡ false → said order ≡ context_after d (said order) (segment_of d (as_known name body))
  unfolding context_after segment_of
  same-order d order body h = rw (e, h)

pub own-order : (name : Name) → name ≡ Obr → (d : Delims) (order s o : List ℕ) → o ≡ order_number d s → said o ≡ context_after d (said order) (segment_of d (as_known name (met s)))
unfolding context_after segment_of
own-order name e d order s o h = rw e (ap said h)

pub kept : {A B E : Type 0} (r : Result A E) (o : B) (q : Result B E) (P : B → Type 0) → q ≡ result_and r (Ok o) → P o → IfOk q P
kept (Ok a) o q P h p = rw h p
kept (Err k) o q P h p = rw h tt

pub other-found : {A : Type 0} {a : A} {name : Name} {d : Delims} {x : Context} {body : List ℕ} → name ≡ Other → FoundIn {A = A} name d x body (Ok a)
unfolding places segment_of parts_told fault_told
other-found e = rw e (record { told = λ i. refl })
