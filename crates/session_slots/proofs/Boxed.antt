-- What the walks of a handle share. A handle of something lies in memory as the box does, and owns what it owns.
use mathlib.Core.Path.{◌≡◌, sym, refl, subst}
use mathlib.Core.List.{List, []}
use seplogic.Ra.Ura.{Ura}
use mir.Syntax.{impl, tnil, dnil}
use mir.Val.{Val}
use base.Logic.{SProp, ent, id⊢}
use denote.RattleType.{RattleType}
use Rattle.std.specs.Prelude.{Option, None, Some}
use Rattle.std.specs.contracts.alloc.Global as heap
use Rattle.std.specs.contracts.impls.GlobalAllocator.TheImpl.{ghosts, dict}
use Rattle.std.proofs.alloc.Global.TheLaws as heap_laws
use Rattle.std_alloc.proofs.BoxSteps.Form.{Bx}
use Rattle.box_parts.specs.contracts.Parts as box_parts
use Rattle.session_slots.specs.Handles.{IsHeld}
use Rattle.session_slots.specs.contracts.holder.Holder as holder
use Rattle.session_slots.specs.contracts.handle.Handle as handle
use Rattle.session_slots.proofs.holder.Holder.TheLaws as holder_laws

-- a box of a holder
abbrev pub boxed : Bx
boxed = record { row = holder.the_row; laws = holder_laws.the_row_laws; al = record { row = heap.the_row; laws = heap_laws.the_row_laws; g = ghosts; d = dict; drops = impl [] tnil dnil } }

-- its parts
abbrev pub Parts : RattleType
Parts = box_parts.the_row holder.the_row heap.the_row ghosts

-- its handle
abbrev pub Handle : RattleType
Handle = handle.the_row

-- who is right of one list of machine values is right of its equal
pub at_values : {M : Type 1} (𝓤 : Ura M) (run : List Val → SProp 𝓤) {us vs : List Val} → us ≡ vs → ent 𝓤 (run vs) (run us)
at_values 𝓤 run {us} {vs} same = subst (λ (ws : List Val). ent 𝓤 (run vs) (run ws)) (sym same) (id⊢ 𝓤 (run vs))

-- what there is
pub there_is : {X : Type 0} (o : Option X) → IsHeld o → (x : X) × (o ≡ Some x)
there_is None held = absurd (held refl)
there_is (Some x) held = (x, refl)
