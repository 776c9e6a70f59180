-- What calls answer that change the lists of experts, or make them stale.
use Rattle.std.proofs.Common.{◌≡◌, ◌↔◌, ◌⊎◌, inl, inr, ◌≤◌, ◌++◌, List, [], ◌∷◌, length, get_or, None, Some, Ok, Err, refl, sym, ap, subst, ◌∙◌}
use Rattle.std.proofs.lemmas.Option.{same_Some}
use Rattle.std.specs.Prelude.{Result, OnOk, OnErr, IsErrOf}
use Rattle.inc_value.specs.Choice.{Among}
use Rattle.inc_value.specs.declared.node.NodeId.{NodeId}
use Rattle.inc_value.specs.declared.ty.Ty.{Ty}
use Rattle.inc_value.specs.declared.function.FnRef.{FnRef}
use Rattle.inc_value.specs.declared.ty.Ty.TheVariants as ty
use Rattle.inc_value.specs.declared.value.Value.{Value}
use Rattle.inc_terms.specs.Graph.{Row, Def, Expert}
use Rattle.inc_terms.specs.Within.{Given}
use Rattle.expert_nodes.specs.Experts.{without_first}
use Rattle.expert_nodes.specs.declared.expert.LinkFault.{LinkFault}
use Rattle.expert_nodes.specs.declared.expert.LinkFault.TheVariants as link
use Rattle.expert_nodes.specs.declared.expert.UnlinkFault.{UnlinkFault}
use Rattle.expert_nodes.specs.declared.expert.UnlinkFault.TheVariants as unlink
use Rattle.node_arena.specs.Arena.{Arena, row_at}
use Rattle.node_arena.specs.Sound.{IsSoundArena}
use Rattle.node_arena.specs.Typing.{FoldMakes, FoldTakes, Makes}
use Rattle.graph.specs.Effects.{AnswersLink, AnswersUnlink, BothGiven, IsExpertIn, IsNoExpert, IsStaleFault, IsUnlinkFault, KeepsAll, KeepsNeed}
use Rattle.graph.specs.Effects.{MayBeListed, Relists, TakesBeside}
use Rattle.graph.specs.Fault.{of_link, of_unlink}
use Rattle.graph.specs.Standing.{GraphView, IsBroken, IsUnbroken, listed_by}
use Rattle.graph.specs.declared.fault.GraphFault.{GraphFault}
use Rattle.graph.specs.declared.fault.GraphFault.TheVariants as fault
use Rattle.graph.specs.declared.fault.Kept.{Kept}
use Rattle.graph.proofs.Adding.{all_stays}
use Rattle.graph.proofs.Faulting.{same_err}

-- a broken graph isn't unbroken
pub clash : {F P : Type 0} (s : GraphView F) → IsUnbroken s → (cause : Kept) → IsBroken s cause → P
clash s whole cause (r, met, of) = absurd (let e : None ≡ Some r = sym whole ∙ met in cc)

-- an answer of the parts, as a graph gives it
abbrev pub LinkPasses : {T : Type 0} → Result T LinkFault → Result T GraphFault → Type 0
LinkPasses (Ok u) q = q ≡ Ok u
LinkPasses (Err e) q = q ≡ Err (of_link e)

abbrev pub UnlinkPasses : {T : Type 0} → Result T UnlinkFault → Result T GraphFault → Type 0
UnlinkPasses (Ok u) q = q ≡ Ok u
UnlinkPasses (Err e) q = q ≡ Err (of_unlink e)

module _ {F : Type 0} (s : GraphView F) (expert node : NodeId) where
  -- who takes nodes beside is an expert
  pub is_expert : (element : Ty) → TakesBeside s.nodes expert element → IsExpertIn s.nodes expert
  is_expert element (row, function, first, kids, is_row, def, takes) = (row, function, first, kids, is_row, def)

  expert_of : MayBeListed s expert node → IsNoExpert s expert → ⊥
  expert_of may not = not (is_expert may.element may.takes)

  -- ---- refused before anything is done

  pub link_unknown : IsUnbroken s → (BothGiven s expert node → ⊥) → AnswersLink s s expert node (Err fault.Unknown)
  link_unknown whole not = record {
    linked = tt;
    broken = λ cause. ((λ e. absurd (let x = same_err e in cc)), (λ b. clash s whole cause b));
    unknown = ((λ e. (whole, not)), (λ k. refl));
    not_expert = ((λ e. absurd (let x = same_err e in cc)), (λ k. absurd (not k.1)));
    wrong_type = ((λ e. absurd (let x = same_err e in cc)), (λ k. absurd (not k.1)));
    full = ((λ e. absurd (let x = same_err e in cc)), (λ k. absurd (not k.1)));
    linking = inr (inl refl);
    err = all_stays s;
    same = λ not. refl;
  }

  pub link_not_expert : IsUnbroken s → BothGiven s expert node → IsNoExpert s expert → AnswersLink s s expert node (Err fault.NotExpert)
  link_not_expert whole given not = record {
    linked = tt;
    broken = λ cause. ((λ e. absurd (let x = same_err e in cc)), (λ b. clash s whole cause b));
    unknown = ((λ e. absurd (let x = same_err e in cc)), (λ k. absurd (k.1 given)));
    not_expert = ((λ e. (whole, given, not)), (λ k. refl));
    wrong_type = ((λ e. absurd (let x = same_err e in cc)), (λ k. absurd (k.2 not)));
    full = ((λ e. absurd (let x = same_err e in cc)), (λ k. absurd (expert_of k.2 not)));
    linking = inr (inr (inl refl));
    err = all_stays s;
    same = λ not. refl;
  }

  pub link_mistyped : IsUnbroken s → BothGiven s expert node → IsExpertIn s.nodes expert → (MayBeListed s expert node → ⊥)
      → AnswersLink s s expert node (Err fault.WrongType)
  link_mistyped whole given is not = record {
    linked = tt;
    broken = λ cause. ((λ e. absurd (let x = same_err e in cc)), (λ b. clash s whole cause b));
    unknown = ((λ e. absurd (let x = same_err e in cc)), (λ k. absurd (k.1 given)));
    not_expert = ((λ e. absurd (let x = same_err e in cc)), (λ k. absurd (k.2 is)));
    wrong_type = ((λ e. (whole, given, (λ no. no is), not)), (λ k. refl));
    full = ((λ e. absurd (let x = same_err e in cc)), (λ k. absurd (not k.2)));
    linking = inr (inr (inr (inl refl)));
    err = all_stays s;
    same = λ not. refl;
  }

  -- the arena tells which it is
  pub link_refused : IsUnbroken s → (e : GraphFault) → (e ≡ fault.Unknown → BothGiven s expert node → ⊥)
      → (e ≡ fault.NotExpert → BothGiven s expert node × IsNoExpert s expert) → (e ≡ fault.Unknown) ⊎ (e ≡ fault.NotExpert)
      → AnswersLink s s expert node (Err e)
  link_refused whole e unknown not_expert (inl is) =
      subst (λ (x : GraphFault). AnswersLink s s expert node (Err x)) (sym is) (link_unknown whole (unknown is))
  link_refused whole e unknown not_expert (inr is) =
      let k = not_expert is in
      subst (λ (x : GraphFault). AnswersLink s s expert node (Err x)) (sym is) (link_not_expert whole k.0 k.1)

  -- ---- the same of a node that is taken off

  pub unlink_unknown : IsUnbroken s → (BothGiven s expert node → ⊥) → AnswersUnlink s s expert node (Err fault.Unknown)
  unlink_unknown whole not = let l = link_unknown whole not in record {
    unlinked = tt;
    broken = l.broken;
    unknown = l.unknown;
    not_expert = l.not_expert;
    not_linked = ((λ e. absurd (let x = same_err e in cc)), (λ k. absurd (not k.1)));
    unlinking = inr (inl refl);
    err = refl;
  }

  pub unlink_not_expert : IsUnbroken s → BothGiven s expert node → IsNoExpert s expert → AnswersUnlink s s expert node (Err fault.NotExpert)
  unlink_not_expert whole given not = let l = link_not_expert whole given not in record {
    unlinked = tt;
    broken = l.broken;
    unknown = l.unknown;
    not_expert = l.not_expert;
    not_linked = ((λ e. absurd (let x = same_err e in cc)), (λ k. absurd (k.2 not)));
    unlinking = inr (inr (inl refl));
    err = refl;
  }

  pub unlink_refused : IsUnbroken s → (e : GraphFault) → (e ≡ fault.Unknown → BothGiven s expert node → ⊥)
      → (e ≡ fault.NotExpert → BothGiven s expert node × IsNoExpert s expert) → (e ≡ fault.Unknown) ⊎ (e ≡ fault.NotExpert)
      → AnswersUnlink s s expert node (Err e)
  unlink_refused whole e unknown not_expert (inl is) =
      subst (λ (x : GraphFault). AnswersUnlink s s expert node (Err x)) (sym is) (unlink_unknown whole (unknown is))
  unlink_refused whole e unknown not_expert (inr is) =
      let k = not_expert is in
      subst (λ (x : GraphFault). AnswersUnlink s s expert node (Err x)) (sym is) (unlink_not_expert whole k.0 k.1)

-- ---- done, or refused as it was done

module _ {F : Type 0} (s t : GraphView F) (expert node : NodeId) where
  module _ (whole : IsUnbroken s) (given : BothGiven s expert node) (may : MayBeListed s expert node) where
    link_done : Relists s t expert (listed_by s expert ++ node ∷ []) × KeepsNeed s t
        → ((4096 ≤ length (listed_by s expert)) → ⊥) → AnswersLink s t expert node (Ok tt)
    link_done done room = record {
      linked = done;
      broken = λ cause. ((λ e. absurd (cc)), (λ b. clash s whole cause b));
      unknown = ((λ e. absurd (cc)), (λ k. absurd (k.1 given)));
      not_expert = ((λ e. absurd (cc)), (λ k. absurd (expert_of s expert node may k.2)));
      wrong_type = ((λ e. absurd (cc)), (λ k. absurd (k.3 may)));
      full = ((λ e. absurd (cc)), (λ k. absurd (room k.3)));
      linking = tt;
      err = tt;
      same = λ not. tt;
    }

    link_full : (4096 ≤ length (listed_by s expert)) → t ≡ s → KeepsAll s t → AnswersLink s t expert node (Err fault.LinksFull)
    link_full full same keeps = record {
      linked = tt;
      broken = λ cause. ((λ e. absurd (let x = same_err e in cc)), (λ b. clash s whole cause b));
      unknown = ((λ e. absurd (let x = same_err e in cc)), (λ k. absurd (k.1 given)));
      not_expert = ((λ e. absurd (let x = same_err e in cc)), (λ k. absurd (expert_of s expert node may k.2)));
      wrong_type = ((λ e. absurd (let x = same_err e in cc)), (λ k. absurd (k.3 may)));
      full = ((λ e. (whole, given, may, full)), (λ k. refl));
      linking = inr (inr (inr (inr (inl refl))));
      err = keeps;
      same = λ not. same;
    }

    link_lacks : ((4096 ≤ length (listed_by s expert)) → ⊥) → KeepsAll s t → AnswersLink s t expert node (Err fault.Memory)
    link_lacks room keeps = record {
      linked = tt;
      broken = λ cause. ((λ e. absurd (let x = same_err e in cc)), (λ b. clash s whole cause b));
      unknown = ((λ e. absurd (let x = same_err e in cc)), (λ k. absurd (k.1 given)));
      not_expert = ((λ e. absurd (let x = same_err e in cc)), (λ k. absurd (expert_of s expert node may k.2)));
      wrong_type = ((λ e. absurd (let x = same_err e in cc)), (λ k. absurd (k.3 may)));
      full = ((λ e. absurd (let x = same_err e in cc)), (λ k. absurd (room k.3)));
      linking = inr (inr (inr (inr (inr refl))));
      err = keeps;
      same = λ not. absurd (not refl);
    }

    pub link_answer : (r : Result (Unit {0}) LinkFault) (q : Result (Unit {0}) GraphFault) → LinkPasses r q
        → OnOk r (Relists s t expert (listed_by s expert ++ node ∷ []) × KeepsNeed s t)
        → IsErrOf r link.LinksFull ↔ (4096 ≤ length (listed_by s expert)) → (IsErrOf r link.LinksFull → t ≡ s) → OnErr r (KeepsAll s t)
        → AnswersLink s t expert node q
    link_answer (Ok u) q is done full same err = subst (λ (x : Result (Unit {0}) GraphFault). AnswersLink s t expert node x) (sym is)
        (link_done done (λ f. absurd (let x = full.1 f in cc)))
    link_answer (Err link.LinksFull) q is done full same err =
        subst (λ (x : Result (Unit {0}) GraphFault). AnswersLink s t expert node x) (sym is) (link_full (full.0 refl) (same refl) err)
    link_answer (Err link.Memory) q is done full same err =
        subst (λ (x : Result (Unit {0}) GraphFault). AnswersLink s t expert node x) (sym is)
        (link_lacks (λ f. absurd (let x = full.1 f in cc)) err)

  module _ (whole : IsUnbroken s) (given : BothGiven s expert node) (is : IsExpertIn s.nodes expert) where
    unlink_done : Among node (listed_by s expert) × Relists s t expert (without_first node (listed_by s expert))
        → AnswersUnlink s t expert node (Ok tt)
    unlink_done done = record {
      unlinked = done;
      broken = λ cause. ((λ e. absurd (cc)), (λ b. clash s whole cause b));
      unknown = ((λ e. absurd (cc)), (λ k. absurd (k.1 given)));
      not_expert = ((λ e. absurd (cc)), (λ k. absurd (k.2 is)));
      not_linked = ((λ e. absurd (cc)), (λ k. absurd (k.3 done.0)));
      unlinking = tt;
      err = tt;
    }

    unlink_absent : (Among node (listed_by s expert) → ⊥) → t ≡ s → AnswersUnlink s t expert node (Err fault.NotLinked)
    unlink_absent absent same = record {
      unlinked = tt;
      broken = λ cause. ((λ e. absurd (let x = same_err e in cc)), (λ b. clash s whole cause b));
      unknown = ((λ e. absurd (let x = same_err e in cc)), (λ k. absurd (k.1 given)));
      not_expert = ((λ e. absurd (let x = same_err e in cc)), (λ k. absurd (k.2 is)));
      not_linked = ((λ e. (whole, given, (λ no. no is), absent)), (λ k. refl));
      unlinking = inr (inr (inr refl));
      err = same;
    }

    pub unlink_answer : (r : Result (Unit {0}) UnlinkFault) (q : Result (Unit {0}) GraphFault) → UnlinkPasses r q
        → OnOk r (Among node (listed_by s expert) × Relists s t expert (without_first node (listed_by s expert)))
        → OnErr r (Among node (listed_by s expert) → ⊥) → OnErr r (t ≡ s) → AnswersUnlink s t expert node q
    unlink_answer (Ok u) q is done absent err = subst (λ (x : Result (Unit {0}) GraphFault). AnswersUnlink s t expert node x) (sym is)
        (unlink_done done)
    unlink_answer (Err unlink.NotLinked) q is done absent err =
        subst (λ (x : Result (Unit {0}) GraphFault). AnswersUnlink s t expert node x) (sym is) (unlink_absent absent err)

  -- ---- a caller who knows

  -- a node that isn't taken off isn't there
  pub not_there : IsUnbroken s → BothGiven s expert node → IsExpertIn s.nodes expert → (e : GraphFault)
      → AnswersUnlink s t expert node (Err e) → Among node (listed_by s expert) → ⊥
  not_there whole given is e a = go a.unlinking
    where
      by : (f : GraphFault) → e ≡ f → IsErrOf {T = Unit {0}} (Err e) f
      by f same = ap (λ (y : GraphFault). Err y) same

      go : IsUnlinkFault e → Among node (listed_by s expert) → ⊥
      go (inl b) among = clash s whole b.0 ((a.broken b.0).0 (by (fault.Broken b.0) b.1))
      go (inr (inl u)) among = (a.unknown.0 (by fault.Unknown u)).1 given
      go (inr (inr (inl x))) among = (a.not_expert.0 (by fault.NotExpert x)).2 is
      go (inr (inr (inr l))) among = (a.not_linked.0 (by fault.NotLinked l)).3 among

-- an expert is made stale
pub no_stale_fault : {F T : Type 0} (s : GraphView F) (expert : NodeId) → IsUnbroken s → Given s.nodes.given expert → IsExpertIn s.nodes expert
    → (r : Result T GraphFault) (e : GraphFault) → r ≡ Err e → IsStaleFault e
    → ((cause : Kept) → IsErrOf r (fault.Broken cause) ↔ IsBroken s cause)
    → (IsErrOf r fault.Unknown ↔ (IsUnbroken s × ¬ BothGiven s expert expert))
    → (IsErrOf r fault.NotExpert ↔ (IsUnbroken s × BothGiven s expert expert × IsNoExpert s expert)) → ⊥
no_stale_fault s expert whole given is r e met (inl b) broken unknown not_expert =
    clash s whole b.0 ((broken b.0).0 (met ∙ ap (λ (y : GraphFault). Err y) b.1))
no_stale_fault s expert whole given is r e met (inr (inl u)) broken unknown not_expert =
    (unknown.0 (met ∙ ap (λ (y : GraphFault). Err y) u)).1 (given, given)
no_stale_fault s expert whole given is r e met (inr (inr x)) broken unknown not_expert =
    (not_expert.0 (met ∙ ap (λ (y : GraphFault). Err y) x)).2 is

-- ---- what the arena tells of experts

two_taken : (a : Arena) (t : Ty) (kids : List NodeId) (tys : List Ty) → FoldTakes a t kids tys → tys ≡ t ∷ get_or tys 1 ty.Int ∷ []
two_taken a t kids [] h = absurd h
two_taken a t kids (x ∷ []) h = absurd h
two_taken a t kids (x ∷ y ∷ []) h = ap (λ (z : Ty). z ∷ y ∷ []) h.0
two_taken a t kids (x ∷ y ∷ z ∷ rest) h = absurd h

-- an expert's function takes what it gives, and one value more
pub expert_takes : (a : Arena) (n : NodeId) (row : Row) (f : FnRef) (v : Value) (ns : List NodeId) → IsSoundArena a → row_at a n ≡ Some row
    → row.def ≡ Expert f v ns → f.sig.takes ≡ f.sig.gives ∷ get_or f.sig.takes 1 ty.Int ∷ []
expert_takes a n row f v ns sound is_row def =
    let makes : FoldMakes a f v ns row.ty = subst (λ (d : Def). Makes a d row.ty) def (sound.types n row is_row) in
    subst (λ (t : Ty). f.sig.takes ≡ t ∷ get_or f.sig.takes 1 ty.Int ∷ []) (sym makes.gives) (two_taken a row.ty ns f.sig.takes makes.takes)

same_element : (a : Arena) (n : NodeId) (t t' : Ty) → TakesBeside a n t → TakesBeside a n t' → t ≡ t'
same_element a n t t' (row, f, v, ns, is_row, def, takes) (row', f', v', ns', is_row', def', takes') =
    let rows : row ≡ row' = same_Some row row' (sym is_row ∙ is_row') in
    let experts : Expert f v ns ≡ Expert f' v' ns' = sym def ∙ (ap (λ (r : Row). r.def) rows ∙ def') in
    let functions : f ≡ f' = let e = experts in cc in
    let both : f.sig.gives ∷ t ∷ [] ≡ f'.sig.gives ∷ t' ∷ [] = sym takes ∙ (ap (λ (g : FnRef). g.sig.takes) functions ∙ takes') in
    let e = both in cc

-- what isn't of the type that an expert takes may not be listed
pub not_listable : {F : Type 0} (s : GraphView F) (expert node : NodeId) (t : Ty) → TakesBeside s.nodes expert t
    → (((r : Row) → row_at s.nodes node ≡ Some r → r.ty ≡ t) → ⊥) → MayBeListed s expert node → ⊥
not_listable s expert node t takes not may = not (λ r is. may.fits r is ∙ same_element s.nodes expert may.element t may.takes takes)
