-- What the two walks share. The parts of a box lie in memory as the box does, and own what it owns.
use mathlib.Core.Path.{◌≡◌, sym, ap, subst, ◌∙◌}
use mathlib.Core.List.{List, [], ◌∷◌, ◌++◌}
use Prim.Native.Nat.{ℕ}
use seplogic.Ra.Ura.{Ura}
use mir.Syntax.{Args, Dict, Dicts, a_type}
use mir.Val.{Val, vstruct, of_list}
use base.Logic.{SProp, ent, id⊢}
use denote.Param.{bounded}
use denote.Param.Laws.{Laws}
use denote.RattleType.{RattleType}
use denote.RawPtr.{Ptr, block_ptr, ptr_val}
use denote.Steps.{only}
use Rattle.core.specs.declared.alloc.Allocator.{Ghosts}
use Rattle.std_alloc.proofs.BoxSteps.Form.{Bx, P, R, word}
use Rattle.box_parts.specs.contracts.Parts as Parts

-- a box of this element with this allocator
abbrev pub boxes : (T A : RattleType) → Laws T → Laws A → Ghosts A.Denot → (methods drops : Dict) → Bx
boxes T A LT LA g methods drops = record { row = T; laws = LT; al = record { row = A; laws = LA; g = g; d = methods; drops = drops } }

-- its parts
abbrev pub parts_of : Bx → RattleType
parts_of E = Parts.the_row (R E) (P E) E.al.g

-- what a call of a function over an element and an allocator passes beside its arguments
abbrev pub passed : Bx → Dicts → Args
passed E dicts = bounded (a_type ∷ a_type ∷ []) (E.row, (E.al.row, tt)) dicts

-- a pair of a pointer and a handle is one machine value
pub pair_is : (E : Bx) {pair handle : Val} {pointers handles : List Val} {at : Ptr} {b o : ℕ} → pair ∷ [] ≡ vstruct (of_list (pointers ++ (handles ++ []))) ∷ []
    → pointers ≡ ptr_val at ∷ [] → at ≡ block_ptr b o → handles ≡ handle ∷ [] → pair ≡ word E handle b o
pair_is E {pair} {handle} {pointers} {handles} {at} {b} {o} whole pointer place is_handle =
    let told = subst (λ (ps : List Val). pair ∷ [] ≡ vstruct (of_list (ps ++ (handles ++ []))) ∷ []) (pointer ∙ ap (λ (p : Ptr). ptr_val p ∷ []) place) whole in
    ap only (subst (λ (hs : List Val). pair ∷ [] ≡ vstruct (of_list (ptr_val (block_ptr b o) ∷ (hs ++ []))) ∷ []) is_handle told)

-- who is right of one list of machine values is right of its equal
pub at_values : {M : Type 1} (𝓤 : Ura M) (run : List Val → SProp 𝓤) {us vs : List Val} → us ≡ vs → ent 𝓤 (run vs) (run us)
at_values 𝓤 run {us} {vs} same = subst (λ (ws : List Val). ent 𝓤 (run vs) (run ws)) (sym same) (id⊢ 𝓤 (run vs))
