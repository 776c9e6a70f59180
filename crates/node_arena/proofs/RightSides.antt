-- Right sides in an arena, as the laws of graphs ask.
use Rattle.std.proofs.Common.{arith, ◌≡◌, ◌≤◌, inl, inr, refl, sym, subst, ap, ◌∙◌, ℕ, Bool, List, [], ◌∷◌, Option, Some, IfSome}
use Rattle.inc_value.specs.Choice.{Among}
use Rattle.inc_value.specs.declared.function.FnKind.{FnKind}
use Rattle.inc_value.specs.declared.function.FnKind.TheVariants as kind
use Rattle.inc_value.specs.declared.function.FnRef.{FnRef}
use Rattle.inc_value.specs.declared.node.NodeId.{NodeId}
use Rattle.inc_value.specs.declared.ty.Ty.{Ty}
use Rattle.inc_value.specs.declared.value.Value.{Value}
use Rattle.inc_terms.specs.Term.{Term, Terms, Const, Ref, Cap, Map, Fold, If, Join, Bind, At, Steps, Now, End, More}
use Rattle.inc_terms.specs.Graph.{Graph, Row, Def}
use Rattle.inc_terms.specs.Rebuild.{Names}
use Rattle.inc_terms.specs.Stay.{KeepsScope}
use Rattle.inc_terms.specs.Unfold.{IsIn, Outside, Unfolds, UnfoldsAll}
use Rattle.inc_terms.specs.Within.{Given, Fit, KnownAs, MayName, MayHold}
use Rattle.inc_terms.proofs.Staying.{unfolds_stay}
use Rattle.inc_terms.proofs.Within.{term_more, names_kept}
use Rattle.node_arena.specs.Arena.{Arena, row_at}
use Rattle.node_arena.specs.Building.{Building, Use, IsListed, Grows}
use Rattle.node_arena.specs.Graph.{graph_of, nothing_held}
use Rattle.node_arena.specs.Listing.{Listed, nodes_of, IsNamed}
use Rattle.node_arena.specs.RightSide.{RightSide, AreFit, SidesHold}
use Rattle.node_arena.specs.RightSideLaws.{SidesAreLawful, ids_of, IsFitIn, FitListsGiven, FitLasts, SidesLast, RowsLast, BuildingFits, SameRowsUnfold, NewInScope, KilledAndBuilt}
use Rattle.node_arena.specs.Sound.{IsSoundArena}
use Rattle.node_arena.specs.Typing.{Fits}
use Rattle.node_arena.proofs.Graph.{calls_more, maps_name_no_node}

-- ---- listed nodes

pub listed_of : (xs : List Listed) (n : NodeId) → Among n (nodes_of xs) → (x : Listed) × Among x xs × (x.node ≡ n)
listed_of [] n h = absurd h
listed_of (x ∷ xs) n (inl e) = (x, inl refl, sym e)
listed_of (x ∷ xs) n (inr h) = let r = listed_of xs n h in (r.0, inr r.1, r.2)

node_of : (xs : List Listed) (x : Listed) → Among x xs → Among x.node (nodes_of xs)
node_of [] x h = absurd h
node_of (y ∷ xs) x (inl e) = inl (ap (λ (z : Listed). z.node) e)
node_of (y ∷ xs) x (inr h) = inr (node_of xs x h)

-- ---- functions

module _ (known : FnRef → Bool) (right : FnRef → RightSide) (hold : SidesHold known right) where
  used : (f : FnRef) → KnownAs known kind.Rhs f → (k : FnKind) (g : FnRef) → IsListed (right f).uses k g
      → KnownAs known k g × ((x : Listed) → Among x (right g).ids → Among x (right f).ids)
  used f is k g l =
      let u = hold.usable f is l.listed l.among in (
        (rw l.function at u.is_known, l.kind),
        subst (λ (h : FnRef). (x : Listed) → Among x (right h).ids → Among x (right f).ids) l.function u.within,
      )

  holds : (f : FnRef) → KnownAs known kind.Rhs f → (k : FnKind) (g : FnRef) → IsListed (right f).uses k g → MayHold known (ids_of right) f k g
  holds f is k g l = let u = used f is k g l in
      (u.0, λ n h. (let x = listed_of (right g).ids n h in subst (λ m. Among m (ids_of right f)) x.2 (node_of (right f).ids x.0 (u.1 x.0 x.1))))

pub sides_are_lawful : SidesAreLawful
sides_are_lawful known value right base hold = record {
  values = maps_name_no_node known value base;
  terms = λ f v is. term_more (IsNamed (right f).ids v) (MayName (ids_of right) f v) (IsListed (right f).uses) (MayHold known (ids_of right) f)
      (λ n h. h) (holds known right hold f is) ((right f).term v) ((hold.lawful f is).names v);
}

pub fit_lists_given : FitListsGiven
fit_lists_given known right a all n r is =
    calls_more (IsFitIn known right a) (Fit a.given known (ids_of right))
    (λ k f h. (h.0, λ m among. (let x = listed_of (right f).ids m among in rw x.2 at ((h.1 x.0 x.1).0)))) r.def (all n r is)

module _ (known known' : FnRef → Bool) (right right' : FnRef → RightSide) (old new : Arena) (last : SidesLast known known' right right')
    (le : old.given ≤ new.given) (rows : RowsLast old new) where
  fits_last : (n : NodeId) (t : Ty) → Given old.given n → Fits old n t → Fits new n t
  fits_last n t given h =
      let P : Option Row → Type 0 = λ o. IfSome o (λ (r : Row). r.ty ≡ t) in
      elim (rows n given) [ inl e ↦ subst P (sym e) h | inr e ↦ subst P (sym e) tt ]

  are_fit : (ids : List Listed) → AreFit old ids → AreFit new ids
  are_fit ids h x among = let f = h x among in ((let g = f.0 in omega (arith, g, le)), fits_last x.node x.ty f.0 f.1)

  fit_last : (k : FnKind) (f : FnRef) → IsFitIn known right old k f → IsFitIn known' right' new k f
  fit_last k f h =
      ((last.keeps f h.0.0, h.0.1), subst (λ (s : RightSide). AreFit new s.ids) (sym (last.same f h.0.0)) (are_fit (right f).ids h.1))

pub fit_lasts : FitLasts
fit_lasts known known' right right' old new last le rows k f h = fit_last known known' right right' old new last le rows k f h

pub building_fits : BuildingFits
building_fits known known' right right' old new f most last hold is fit grows all n r row =
    let rows : RowsLast old.arena new.arena = λ m given. inl (grows.keeps m given) in
    let lasts = fit_last known known' right right' old.arena new.arena last grows.later rows in
    elim (grows.built n r row) [
      | inl was ↦ calls_more (IsFitIn known right old.arena) (IsFitIn known' right' new.arena) lasts r.def (all n r was)
      | inr b ↦ calls_more (IsListed (right f).uses) (IsFitIn known' right' new.arena)
          (λ k g l. (let u = used known right hold f is k g l in lasts k g (u.0, λ x among. fit x (u.1 x among)))) r.def b.calls
    ]

-- ---- the same rows

module _ (a : Arena) (G : Graph) (same : (n : NodeId) → G.row n ≡ row_at a n) (S : Option NodeId) (caps : List NodeId) where
  in_same : (n : NodeId) (d : Def) → IsIn (graph_of a nothing_held) S n d → IsIn G S n d
  in_same n d h = (h.0, same n ∙ h.1, h.2, h.3)

  out_same : (n : NodeId) → Outside (graph_of a nothing_held) S n → Outside G S n
  out_same n h r is = h r (sym (same n) ∙ is)

  mutual
    unfolds : (t : Term) (n : NodeId) → Unfolds (graph_of a nothing_held) S caps n t → Unfolds G S caps n t
    unfolds (Const v) n h = in_same n _ h
    unfolds (Ref m) n h = (h.0, out_same n h.1)
    unfolds (Cap i) n h = (h.0, out_same n h.1)
    unfolds (Map f ts) n h = (h.0, in_same n _ h.1, unfolds_all ts h.0 h.2)
    unfolds (Fold f v ts) n h = (h.0, in_same n _ h.1, unfolds_all ts h.0 h.2)
    unfolds (If t x y) n h = (h.0, h.1, h.2, in_same n _ h.3, unfolds t h.0 h.4, unfolds x h.1 h.5, unfolds y h.2 h.6)
    unfolds (Join t) n h = (h.0, in_same n _ h.1, unfolds t h.0 h.2)
    unfolds (Bind l f ts) n h = (h.0, h.1, in_same n _ h.2, unfolds l h.0 h.3, unfolds_all ts h.1 h.4)
    unfolds (At t) n h = in_same n _ h
    unfolds (Steps v ss) n h = in_same n _ h
    unfolds Now n h = in_same n _ h

    unfolds_all : (ts : Terms) (ns : List NodeId) → UnfoldsAll (graph_of a nothing_held) S caps ns ts → UnfoldsAll G S caps ns ts
    unfolds_all End [] h = tt
    unfolds_all End (n ∷ ns) h = absurd h
    unfolds_all (More t ts) [] h = absurd h
    unfolds_all (More t ts) (n ∷ ns) h = (unfolds t n h.0, unfolds_all ts ns h.1)

pub same_rows_unfold : SameRowsUnfold
same_rows_unfold a G same S caps n t h = unfolds a G same S caps t n h

-- ---- a bind built anew

pub new_in_scope : NewInScope
new_in_scope uses old new most sound sound' grows n r is later = elim (grows.built n r is) [
  | inl was ↦ absurd (later (sound.given n (rw was refl)))
  | inr b ↦ (b.scope, sound'.given n (rw is refl))
]

pub killed_and_built : KilledAndBuilt
killed_and_built F G G' before killed built b f captures v root uses most type rows rows' sound sound' kill grows is = record {
  rows = λ n given.
      (let k : Given killed.given n = (let e = kill.same_given in omega (arith, given, e)) in
      let kept : G'.row n ≡ row_at killed n = rows' n ∙ grows.keeps n k in
      elim (kill.rows n given) [
        | inl h ↦ inl (h.0, kept ∙ h.1)
        | inr h ↦ inr (h.0, kept ∙ (h.1 ∙ sym (rows n)))
      ]);
  fresh = λ n r row later.
      new_in_scope uses (record { arena = killed; scope = b }) (record { arena = built; scope = b }) most sound sound' grows n r (sym (rows' n) ∙ row)
      (λ given. later (let e = kill.same_given in omega (arith, given, e)));
  rooted = record {
    unfolds = λ w e. (
      root,
      refl,
      (let same : v ≡ w = cc in
          subst (λ (x : Value). Unfolds G' (Some b) captures root (F.term f x)) same (same_rows_unfold built G' rows' (Some b) captures root (F.term f v) is.unfolds)),
    );
    rootless = λ e. absurd cc;
  };
  root_given = is.given;
}

-- ---- what was built before stays while more is built

-- the graph of a sound arena names given nodes
names_of : (a : Arena) → IsSoundArena a → Names (Given a.given) (λ k f. Unit {0}) (graph_of a nothing_held)
names_of a sound = names_kept (Given a.given) (λ k f. Unit {0}) (graph_of a nothing_held) (record {
  live = λ n r is. sound.given n (rw is refl);
  defs = sound.names;
  scope = sound.scopes;
  frozen = λ n v is. absurd cc;
  lists = λ n. tt;
})

pub unfolds_grown : (uses : List Use) (mid new : Building) (most : ℕ) → IsSoundArena mid.arena → Grows uses mid new most
    → (captures : List NodeId) (n : NodeId) (t : Term) → Given mid.arena.given n
    → Unfolds (graph_of mid.arena nothing_held) (Some mid.scope) captures n t → Unfolds (graph_of new.arena nothing_held) (Some new.scope) captures n t
unfolds_grown uses mid new most sound grows captures n t given h =
    let keeps : KeepsScope (Given mid.arena.given) (graph_of mid.arena nothing_held) (graph_of new.arena nothing_held) (Some mid.scope) = record {
      rows = λ m r is scope. grows.keeps m (sound.given m (rw is refl)) ∙ is;
      outside = λ m g out r is. out r (sym (grows.keeps m g) ∙ is);
    } in
    subst (λ (s : NodeId). Unfolds (graph_of new.arena nothing_held) (Some s) captures n t) (sym grows.scope)
    (unfolds_stay (Given mid.arena.given) (λ k f. Unit {0}) (graph_of mid.arena nothing_held) (graph_of new.arena nothing_held) (names_of mid.arena sound) (Some mid.scope) keeps captures t n given h)
