-- Laws of the order. Assumes nothing.
use mathlib.Core.Path.{◌≡◌, refl, sym, ap, ◌∙◌}
use mathlib.Core.Bool.{Bool, ◌||◌}
use mathlib.Core.List.{[], ◌∷◌}
use Rattle.rules.specs.declared.Name.{Name}
use Rattle.rules.specs.declared.Name.TheVariants.{Msh, Pid, Pv1, Spm, Obr, Orc, Obx, Other}
use Rattle.rules.specs.Frame.{is, after, may_follow}
use Rattle.rules.specs.Frame as Frame
use Rattle.rules.proofs.Logic.{or-false, or_assoc}
use Rattle.rules.proofs.Lists.{any-cons, any-nil}
use Rattle.order.specs.Order.{reached_of, code_reached}
use Rattle.order.specs.declared.Reached.{Reached}

-- the code's state is known by the definitions'
pub reached-is : (r : Reached) (a : Frame.Reached) → reached_of r ≡ a → r ≡ code_reached a
reached-is r a e = ap code_reached e

-- ---- what may follow each name
module _ (a : Frame.Reached) (b : Name) (t : Bool) where
  one : (x y : Name) → after x ≡ y ∷ [] → a.last ≡ x → t ≡ is b y → t ≡ may_follow a b
  unfolding may_follow
  one x y f e h = h ∙ sym (rw (e, f, any-cons (is b) y [], any-nil (is b)) (or-false (is b y)))

  pub first_msh : a.last ≡ Other → t ≡ is b Msh → t ≡ may_follow a b
  first_msh e h = one Other Msh refl e h

  pub msh_pid : a.last ≡ Msh → t ≡ is b Pid → t ≡ may_follow a b
  msh_pid e h = one Msh Pid refl e h

  pub pid_pv1 : a.last ≡ Pid → t ≡ is b Pv1 → t ≡ may_follow a b
  pid_pv1 e h = one Pid Pv1 refl e h

  pub pv1_spm : a.last ≡ Pv1 → t ≡ is b Spm → t ≡ may_follow a b
  pv1_spm e h = one Pv1 Spm refl e h

  pub spm_obr : a.last ≡ Spm → t ≡ is b Obr → t ≡ may_follow a b
  spm_obr e h = one Spm Obr refl e h

  pub obr_orc : a.last ≡ Obr → t ≡ is b Orc → t ≡ may_follow a b
  obr_orc e h = one Obr Orc refl e h

  pub orc_obx : a.last ≡ Orc → t ≡ is b Obx → t ≡ may_follow a b
  orc_obx e h = one Orc Obx refl e h

pub after_obx : (a : Frame.Reached) (b : Name) (t u v : Bool) → a.last ≡ Obx → t ≡ is b Obx → u ≡ is b Obr → v ≡ is b Spm → ((t || u) || v) ≡ may_follow a b
unfolding may_follow
after_obx a b t u v e f g h = rw (e, f, g, h) (sym (simp (any-cons, any-nil, or-false, or_assoc)))

pub ruleset follows = (first_msh, msh_pid, pid_pv1, pv1_spm, spm_obr, obr_orc, orc_obx, after_obx)
