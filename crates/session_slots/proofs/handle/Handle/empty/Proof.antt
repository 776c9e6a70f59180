-- The walk of `empty`: a null pointer beside the allocator, which own nothing more.
use mathlib.Core.Path.{◌≡◌, refl}
use mathlib.Core.List.{List, [], ◌∷◌, ◌++◌}
use lib.Dec.{T as Is}
use mir.Val.{Val, vnull, vstruct, vcons, vnil, has_ty, WT}
use base.Logic.{SProp, emp, id⊢}
use base.Fml.{ftrue, fsep}
use contract.Monad.{fact, fact_i}
use contract.Running.{tables}
use prog.Wp.{WpFn}
use types.Kit.{‵, raw, ◌⊛◌, ◌$◌, ◌∵◌, !, qed, by, move, keep, drop, use0, use1, split, fsplit, fjoin, fpack, feq_i, rewrite, suffices}
use types.Part.{agg}
use types.Run.{no_more, and_then, returns, enter, lit}
use types.ByLocal.{alloc_all, pass_all, free_all, look_at, get, sets}
use denote.Exit.{yes}
use denote.Param.{layout}
use denote.RattleType.{RattleType, Valss}
use denote.RawPtr.{null_ptr}
use denote.Signature.{plain}
use denote.Steps.{nothing}
use denote.Struct.Owning.{shape, to}
use denote.Struct.Struct.{within}
use denote.Triple.Walked.{Stays, stay_dropped, Goes-dropped, walk_of}
use Rattle.core.proofs.cell.Inside.{one}
use Rattle.std.proofs.raw_atomic.Walks.{proved_at, leaves}
use Rattle.std.specs.Prelude.{None}
use Rattle.std.specs.contracts.alloc.Global as heap
use Rattle.std.proofs.alloc.Global.TheLaws as heap_laws
use Rattle.std_alloc.proofs.ResultValues.{and_tt}
use Rattle.session_slots.specs.contracts.handle.Handle as handle
use Rattle.session_slots.proofs.Boxed.{Handle, at_values}
use Rattle.session_slots.specs.contracts.handle.Handle.empty as here
use Rattle.session_slots.specs.contracts.handle.Handle.empty.Key.{name as #self}
use Rattle.session_slots.proofs.handle.Handle.empty.Statement.{statement}
use Rattle.session_slots.proofs.handle.Handle.empty.Code as code

pub empty_spec : {M : Type 1} → statement M
empty_spec 𝓤 𝓛 𝓜 𝓡 wired =
    let 𝓣 = tables 𝓤 𝓛.H 𝓜 𝓡 𝓡.env in let ended = here.ended in let c = here.clauses 𝓛 𝓜.mem 𝓡.returns in let Heap : RattleType = heap.the_row in
    let stays : Stays ended.signature.params ended.kept = (stay_dropped (plain (λ _. Heap)) yes, tt) in
    proved_at 𝓛 ended stays c 𝓜 𝓡 (Goes-dropped 𝓛 0 (plain (λ _. Heap)) yes (λ κs x f. refl), tt) #self code.function (code.unfolded 𝓤 𝓛.H 𝓜 𝓡 wired) (λ y are.
    let alloc = y.0.3.0 in let made : Handle.Denot = record { at = null_ptr; alloc = alloc; value = None } in
    let Post : Val → SProp 𝓤 = (walk_of 𝓛 ended stays c).post y in let Run : List Val → SProp 𝓤 = λ ws. WpFn 𝓤 𝓛.H 𝓣.C 𝓣.Λ code.function (ws ++ []) Post in
    let told = one (layout Heap) y.0.4.0 ((heap_laws.the_row_laws.lawful 𝓛).typed alloc y.0.4.0 are.0) in let given : Val = told.0 in
    let w : Val = vstruct (vcons vnull (vcons given vnil)) in
    let typed : Is (has_ty (layout Handle) w) × WT w = (and_tt (has_ty (layout Heap) given) told.2.0, (record { fits = lib.Dec.lit< tt }, (told.2.1, tt))) in
    qed 𝓛 ((‵ ftrue ⊛ ‵ (fsep (Heap.own_val alloc y.0.4.0) ftrue)) ∷ raw (emp 𝓤) ∷ []) ∵
    split ! $ drop ! $ fsplit ! $ rewrite ! 0 (λ (vs : List Val). ‵ (Heap.own_val alloc vs)) told.1 refl $
    -- [what the allocator owns; nothing; nothing]: the handle owns that and no more
    nothing ! $ nothing ! $ move ! (2 ∷ 1 ∷ 0 ∷ []) $ fjoin ! $ feq_i ! (List Val) (vnull ∷ []) (vnull ∷ []) refl $ fjoin ! $ feq_i ! (List Val) (w ∷ []) (w ∷ []) refl $ fjoin ! $
    fpack ! (Valss (shape handle.the_type).fields) (within (shape handle.the_type) (to handle.the_type made) (w ∷ [])) (vnull ∷ [], (given ∷ [], tt)) $ fjoin ! $
    use1 𝓛 (‵ (Handle.own_val made (w ∷ []))) (id⊢ 𝓤 _) $ suffices ! (Run (given ∷ [])) (at_values 𝓤 Run told.1) $
    enter ! 𝓣.C 𝓣.Λ code.function (given ∷ []) Post $ alloc_all ! (λ l. pass_all ! refl (told.2, tt) $
    sets ! (agg ! (and_then ! (lit ! tt) (and_then ! (get ! refl) (no_more !)))) refl typed $ returns ! (look_at ! 0 refl) $ free_all ! refl $
    use0 𝓛 (raw (fact 𝓤 (made.value ≡ None))) (fact_i 𝓤 (made.value ≡ None) (emp 𝓤) refl) $
    nothing ! $ nothing ! $ fjoin ! $ nothing ! $ keep ! (0 ∷ 1 ∷ 3 ∷ 2 ∷ []) $ by ! (leaves 𝓛 ended stays c y w made (tt, tt) (tt, tt))))
