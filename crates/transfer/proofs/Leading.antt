-- What a point of the graph depends on, the point of the script that it is depends on.
use Rattle.std.proofs.Common.{◌≡◌, ◌⊎◌, inl, inr, ℕ, suc, true, false, List, [], ◌∷◌, length, Option, None, Some, refl, sym, ap, subst, ◌∙◌}
use Rattle.std.specs.Prelude as std
use Rattle.inc_value.specs.declared.node.NodeId.{NodeId}
use Rattle.inc_value.specs.declared.node.Point.{Point as GraphPoint}
use Rattle.inc_value.specs.declared.outcome.Outcome.TheVariants as outcome
use Rattle.inc_value.specs.Choice.{and_then, Among, NoRepeats}
use Rattle.inc_value.specs.Walk.{IsWalk as IsGraphWalk}
use Rattle.inc_terms.specs.Depend as depend
use Rattle.inc_terms.specs.Depend.{main, change, Depends as GraphDepends}
use Rattle.inc_terms.specs.Evaluate.{Stands}
use Rattle.inc_terms.specs.Graph as graph
use Rattle.inc_terms.specs.Graph.{Row}
use Rattle.inc_terms.specs.Same.{same_outcome}
use Rattle.inc_terms.proofs.Same.{outcome_decides}
use Rattle.script_model.specs.Depth.{Point, Main, Change, node_of_body, node_of_formula, Depends, IsWalk}
use Rattle.script_model.specs.Depth as depth
use Rattle.script_model.specs.Evaluate.{value_at, Gives}
use Rattle.script_model.specs.Formula as script
use Rattle.script_model.specs.Formula.{Formula, Body, body_at, Name, Bind, Variable, Computed, Freeze, After, Every, Expert, Grab}
use Rattle.script_model.specs.Need.{Edge, Left, Inside, Item, Named, Place, bind_around, formula_at, outcome_at, grab_reads, Reads, StillStands}
use Rattle.script_model.specs.Valid.{Valid, KeepToTypes}
use Rattle.script_model.specs.Values.{Value, Outcome, Val}
use Rattle.transfer.specs.Both.{Both, graph_value}
use Rattle.transfer.specs.Shows.{IsOwn, Fits}
use Rattle.transfer.specs.Items.{root_at, node_at, node_of, Closed}
use Rattle.transfer.proofs.Agreement.{same_itself, live_facts, grab_facts}
use Rattle.transfer.proofs.Carriers.{IsForm-body, name_or, part_in}
use Rattle.transfer.specs.Cycles.{IsForm}
use Rattle.transfer.proofs.Places.{if_true, then_some, place_shows}
use Rattle.transfer.proofs.Typed.{place_names, body_typed, body_entry}
use Rattle.transfer.proofs.Going.{place_goes, choice_goes, left_goes, IsLeftOf, IsOwnItem, IsSelf, Goes, name_goes, grab_left_goes, to_part, to_own, to_left}
use Rattle.transfer.proofs.Owning.{IsItself, Own, own_name, own_place, own_choice, own_left, own_grab}

-- ---- the point of an item, and where it leads

pub itself : (body : Body) → IsForm-body body → IsItself (Some body)
itself (Computed f kept) form = absurd form
itself (Grab b v l) form = absurd form
itself (Variable v) form = tt
itself (Freeze c p v) form = tt
itself (After t) form = tt
itself (Every t u) form = tt
itself (Expert g v l s) form = tt

-- the places that items of a set read are of it, and so are the lefts of the binds round them; each has a formula
pub record OnPlaces (x : Both) (X : Item → Type 0) : Type 0 where
  pub reads : (i : Item) (o : ℕ) (r : List Edge) → X i → Reads x.meanings x.state i (Place o r) → X (Place o r)
  pub lefts : (owner : ℕ) (path : List Edge) (k : ℕ) (bind : List Edge) → X (Place owner path)
      → bind_around k path ≡ Some bind → X (Place owner (Left ∷ bind))
  pub there : (owner : ℕ) (path : List Edge) → X (Place owner path)
      → (f : Formula) × (formula_at x.state owner path ≡ Some f)

pub on_places : (x : Both) (X : Item → Type 0) → Closed x X → OnPlaces x X
on_places x X closed =
    record {
      reads = λ i o r is read. closed.reads i (Place o r) is read;
      lefts = closed.lefts;
      there = closed.there;
    }

module _ (x : Both) (fits : Fits x) (keep : KeepToTypes x.meanings) (valid : Valid x.meanings x.state)
    (X : Item → Type 0) (places : OnPlaces x X) (stand : (i : Item) → X i → StillStands x.meanings x.state i) where
  -- the point of the item that computes what an own name gives
  pub own_named : (t : ℕ) (b : Option Body) → X (Named t) → body_at x.state t ≡ b → IsOwn b
      → Own x X (Main (node_of_body t b)) (main (x.nodes t))
  own_named t None is at own = own_name t is (rw at tt) refl refl
  own_named t (Some (Variable v)) is at own = own_name t is (rw at tt) refl refl
  own_named t (Some (Freeze c p v)) is at own = own_name t is (rw at tt) refl refl
  own_named t (Some (After u)) is at own = own_name t is (rw at tt) refl refl
  own_named t (Some (Every u w)) is at own = own_name t is (rw at tt) refl refl
  own_named t (Some (Expert g v l s)) is at own = own_name t is (rw at tt) refl refl
  own_named t (Some (Grab b v false)) is at own = own_name t is (rw at tt) refl refl
  own_named t (Some (Grab b v true)) is at own = own_grab t b v is at refl refl
  own_named t (Some (Computed f kept)) is at own = elim (name_or f) [
    | inl (u, e) ↦ absurd (rw e at own)
    | inr form ↦ own_place t [] f (x.nodes t) (places.reads (Named t) t [] is (0, rw at (inl refl)))
        (rw at refl) form (rw at refl) refl refl
  ]

  -- an item of the set from which the point leads to the other
  pub record Leads (p : Point) (P Q : GraphPoint) : Type 0 where
    pub item : Item
    pub is_in : X item
    pub goes : Goes x item p Q
    pub main_of : (o : ℕ) (r : List Edge) → item ≡ Place o r → p ≡ Main (Place o r)
        → (n : NodeId) × (node_at x o r ≡ Some n) × (P ≡ main n)
    pub top : (o : ℕ) → p ≡ Main (Place o []) → item ≡ Place o []

  pub leads : (p : Point) (P Q : GraphPoint) → Own x X p P → GraphDepends x.functions x.graph x.died P Q → Leads p P Q
  leads p P Q (own_name k is self p_is P_is) dep =
      record {
        item = Named k;
        is_in = is;
        goes = rw p_is (name_goes x fits keep valid k (body_at x.state k) Q refl self (fits.declared k) (rw P_is at dep));
        main_of = λ o r i_is q_is. absurd (cc);
        top = λ o q_is. absurd (cc);
      }
  leads p P Q (own_place owner path f n is f_is form at p_is P_is) dep =
      record {
        item = Place owner path;
        is_in = is;
        goes = rw p_is (place_goes x fits keep valid owner path f n f_is at (stand (Place owner path) is) form Q (rw P_is at dep));
        main_of = λ o r i_is q_is. (n, subst (λ (i : Item). node_of x i ≡ Some n) i_is at, P_is);
        top = λ o q_is. cc;
      }
  leads p P Q (own_choice owner path f n is f_is choice at p_is P_is) dep =
      record {
        item = Place owner path;
        is_in = is;
        goes = rw p_is (choice_goes x fits keep valid owner path f n f_is at (stand (Place owner path) is) choice Q (rw P_is at dep));
        main_of = λ o r i_is q_is. absurd (cc);
        top = λ o q_is. absurd (cc);
      }
  leads p P Q (own_left owner path left body n is f_is at p_is P_is) dep =
      record {
        item = Place owner (Left ∷ path);
        is_in = is;
        goes = rw p_is (left_goes x fits keep valid owner path (Bind left body) n f_is at
            (stand (Place owner (Left ∷ path)) is) left body refl Q (rw P_is at dep));
        main_of = λ o r i_is q_is. absurd (cc);
        top = λ o q_is. absurd (cc);
      }
  leads p P Q (own_grab k b v is body_is p_is P_is) dep = rw (p_is, P_is) (by_dep (rw P_is at dep))
    where
      by_place : (r : Row) → x.graph.row (x.nodes k) ≡ Some r → Stands x.functions x.graph r.scope
          → GraphDepends x.functions x.graph x.died (main (x.nodes k)) Q → Leads (Main (Place b (Inside v ∷ []))) (main (x.nodes k)) Q
      by_place r row round dep =
          let g = grab_facts x fits k b v r row body_is in
          inside g.0 g.1 g.2 g.3 g.4 g.5 g.6 g.7 g.8 g.9
        where
          read : (left body : Formula) (kept : script.Kept) (d : ℕ)
              → body_at x.state b ≡ Some (Computed (Bind left body) kept)
              → value_at x.meanings x.state d [] left ≡ Some (Val v) → X (Place b (Inside v ∷ []))
          read left body kept d bind_is gives =
              let left_is : outcome_at x.meanings x.state d (Place b (Left ∷ [])) ≡ Some (Val v) = rw bind_is gives in
              let among : Among (Place b (Inside v ∷ [])) (grab_reads b v (Some (Val v))) =
              subst (λ (t : std.Bool). Among (Place b (Inside v ∷ []))
              (elim t [ true ↦ Place b (Left ∷ []) ∷ Place b (Inside v ∷ []) ∷ [] | false ↦ Place b (Left ∷ []) ∷ [] ]))
              (sym (same_itself v)) (inr (inl refl)) in
              let among' = subst (λ (o : Option Outcome). Among (Place b (Inside v ∷ [])) (grab_reads b v o))
              (sym left_is) among in
              places.reads (Named k) b (Inside v ∷ []) is (d, rw body_is among')

          inside : (left body : Formula) (kept : script.Kept) → body_at x.state b ≡ Some (Computed (Bind left body) kept)
              → ((t : ℕ) → body ≡ Name t → ⊥) → (r' : Row) → x.graph.row (x.nodes k) ≡ Some r'
              → r'.scope ≡ Some (x.nodes b) → node_at x b (Inside v ∷ []) ≡ Some (x.nodes k)
              → (Stands x.functions x.graph (Some (x.nodes b)) → Gives x.meanings x.state [] left (Val v)) → Leads (Main (Place b (Inside v ∷ []))) (main (x.nodes k)) Q
          inside left body kept bind_is named r' row' scope at gives =
              let rows : r ≡ r' = cc in
              let scope_is : r.scope ≡ Some (x.nodes b) = rw (← rows) at scope in
              let g = gives (rw scope_is at round) in
              let here = read left body kept g.0 bind_is g.1 in
              let form : IsForm body = elim (name_or body) [ inl named_is ↦ absurd (named named_is.0 named_is.1) | inr form ↦ form ] in
              record {
                item = Place b (Inside v ∷ []);
                is_in = here;
                goes = place_goes x fits keep valid b (Inside v ∷ []) body (x.nodes k) (rw bind_is refl) at
                    (stand (Place b (Inside v ∷ [])) here) form Q dep;
                main_of = λ o r i_is q_is. (x.nodes k, subst (λ (i : Item). node_of x i ≡ Some (x.nodes k)) i_is at, refl);
                top = λ o q_is. absurd (cc);
              }

      by_left : Goes x (Named k) (Main (Place b (Inside v ∷ []))) Q
          → Leads (Main (Place b (Inside v ∷ []))) (main (x.nodes k)) Q
      by_left goes =
          record {
            item = Named k;
            is_in = is;
            goes = goes;
            main_of = λ o r i_is q_is. absurd (cc);
            top = λ o q_is. absurd (cc);
          }

      by_dep : GraphDepends x.functions x.graph x.died (main (x.nodes k)) Q → Leads (Main (Place b (Inside v ∷ []))) (main (x.nodes k)) Q
      by_dep (depend.gate {r = r} {b = c} row scope Q_is) =
          let g = grab_facts x fits k b v r row body_is in
          let rows : g.5 ≡ r = (let e = g.6 in cc) in
          let same : x.nodes b ≡ c = (let e = rw rows at g.7 in cc) in
          by_left (grab_left_goes x fits keep valid k b v g.0 g.1 g.2 Q body_is g.3 g.4 (Q_is ∙ ap change (sym same)))
      by_dep (depend.ghost {b = c} gone died Q_is) =
          let g = fits.grabbed k b v body_is in
          elim (rw body_is at (fits.declared k)) [
            | inl live ↦ absurd (let w = live_facts x fits k b v body_is live in let row = w.6 in cc)
            | inr lost ↦
                let same : x.nodes b ≡ c = (let e = lost.2 in cc) in
                by_left (grab_left_goes x fits keep valid k b v g.left g.body g.kept Q body_is g.is_bind g.no_name
                (Q_is ∙ ap change (sym same)))
          ]
      by_dep (depend.fixed {r = r} row round among) = by_place r row round (depend.fixed row round among)
      by_dep (depend.right {r = r} row round part sub gives among Q_is) =
          by_place r row round (depend.right row round part sub gives among Q_is)

  -- the left that a bind whose change is led to has is of the set
  pub left_in : (i : Item) (owner : ℕ) (bind : List Edge) → X i → IsLeftOf x i owner bind → X (Place owner (Left ∷ bind))
  left_in i owner bind is (inl read) = places.reads i owner (Left ∷ bind) is read
  left_in i owner bind is (inr (path, k, i_is, around_is)) = places.lefts owner path k bind (rw i_is at is) around_is

module _ (x : Both) (fits : Fits x) (keep : KeepToTypes x.meanings) (valid : Valid x.meanings x.state)
    (X : Item → Type 0) (closed : Closed x X) (stand : (i : Item) → X i → StillStands x.meanings x.state i) where
  own_formula : (owner : ℕ) (path : List Edge) (f : Formula) (n : NodeId) → X (Place owner path)
      → formula_at x.state owner path ≡ Some f → node_at x owner path ≡ Some n
      → Own x X (Main (node_of_formula x.state (Place owner path) (Some f))) (main n)
  own_formula owner path (Name t) n is f_is at =
      let shows = place_shows x fits owner path n (Name t) f_is at in
      let same : n ≡ x.nodes t = cc in
      let named : X (Named t) = part_in x fits X closed owner path (Name t) 0 (Named t) is f_is (inl refl) in
      let own = place_names x.meanings x.state valid owner path (Name t) f_is in
      rw same (own_named x fits keep valid X (on_places x X closed) stand t (body_at x.state t) named refl (rw own.1 own.2))
  own_formula owner path f n is f_is at = own_place owner path f n is f_is tt at refl refl

  -- the point of the item that computes what an item gives
  pub own_item : (j : Item) (m : NodeId) → X j → node_of x j ≡ Some m → IsOwnItem x j
      → Own x X (Main (depth.node_of x.state j)) (main m)
  own_item (Named t) m is at own =
      let same : x.nodes t ≡ m = cc in let d = own t refl in rw (← same) (own_named x fits keep valid X (on_places x X closed) stand t (body_at x.state t) is refl (rw d.1 d.2))
  own_item (Place owner path) m is at own =
      let there = closed.there owner path is in
      subst (λ (o : Option Formula). Own x X (Main (node_of_formula x.state (Place owner path) o)) (main m)) (sym there.1)
      (own_formula owner path there.0 m is there.1 at)

  -- so the other point is one of the script, and the one depends on it
  pub own_next : (p : Point) (P Q : GraphPoint) → Own x X p P → GraphDepends x.functions x.graph x.died P Q
      → (q : Point) × Own x X q Q × Depends x.meanings x.state p q
  own_next p P Q own dep = let l = leads x fits keep valid X (on_places x X closed) stand p P Q own dep in go l.item l.is_in l.goes
    where
      go : (i : Item) → X i → Goes x i p Q → (q : Point) × Own x X q Q × Depends x.meanings x.state p q
      go i is (to_part j m read at Q_is depends named part) =
          (Main (depth.node_of x.state j), rw Q_is (own_item j m (of_part i j is read) at named), depends)
        where
          of_part : (i j : Item) → X i → Reads x.meanings x.state i j ⊎ IsSelf i j → X j
          of_part i j is (inl read) = closed.reads i j is read
          of_part i j is (inr self) = rw self.0 is
      go i is (to_own owner path f n i_is f_is choice at Q_is depends low) =
          (Change (Place owner path), own_choice owner path f n (rw i_is at is) f_is choice at refl Q_is, depends)
      go i is (to_left owner bind left body b left_of f_is at Q_is depends low) = (
        Change (Place owner bind),
        own_left owner bind left body b (left_in x fits keep valid X (on_places x X closed) stand i owner bind is left_of) f_is at refl Q_is,
        depends,
      )

  -- ---- a point of the script is one of the graph

  same_node : {a : Option NodeId} (m n : NodeId) → a ≡ Some m → a ≡ Some n → m ≡ n
  same_node m n e e' = let s : Some m ≡ Some n = sym e ∙ e' in cc

  grab_node : (k b : ℕ) (v : Value) (n : NodeId) → body_at x.state k ≡ Some (Grab b v true)
      → node_at x b (Inside v ∷ []) ≡ Some n → n ≡ x.nodes k
  grab_node k b v n is at = elim (rw is at (fits.declared k)) [
    | inl live ↦ let g = live_facts x fits k b v is live in same_node n (x.nodes k) at g.8
    | inr lost ↦ absurd (elsewhere lost.5)
  ]
    where
      elsewhere : ((w : graph.Built) → x.graph.built (x.nodes b) ≡ Some w → w.outcome ≡ outcome.Val (graph_value x.nodes v) → ⊥) → ⊥
      elsewhere other =
          let g = fits.grabbed k b v is in
          let bind : node_at x b [] ≡ Some (x.nodes b) = rw g.is_bind refl in
          let root : and_then (x.graph.built (x.nodes b)) (root_at x.nodes v) ≡ Some n =
          sym (ap (λ (o : Option NodeId). and_then o (λ b. and_then (x.graph.built b) (root_at x.nodes v))) bind) ∙ at in
          let w = then_some (x.graph.built (x.nodes b)) (root_at x.nodes v) n root in
          let t = if_true (same_outcome w.0.outcome (outcome.Val (graph_value x.nodes v))) w.0.root n w.2 in
          other w.0 w.1 ((outcome_decides w.0.outcome (outcome.Val (graph_value x.nodes v))).0 t.0)

  one_grab : (k j b : ℕ) (v w : Value) → body_at x.state k ≡ Some (Grab b v true) → body_at x.state j ≡ Some (Grab b w true) → j ≡ k
  one_grab k j b v w is is' =
      let h = (body_typed x.meanings x.state valid k (Grab b v true) is).1 in
      let e = body_entry x.state j (Grab b w true) is' in
      h.alone refl j w e.0 e.1 e.2

  pub one_point : (p : Point) (P Q : GraphPoint) → Own x X p P → Own x X p Q → P ≡ Q
  one_point p P Q (own_name k is self p_is P_is) (own_name j is' self' p_is' Q_is) =
      let same : k ≡ j = cc in P_is ∙ ap (λ k. main (x.nodes k)) same ∙ sym Q_is
  one_point p P Q (own_name k is self p_is P_is) (own_place o q f n is' f_is form at p_is' Q_is) = absurd (cc)
  one_point p P Q (own_name k is self p_is P_is) (own_choice o q f n is' f_is choice at p_is' Q_is) = absurd (cc)
  one_point p P Q (own_name k is self p_is P_is) (own_left o q l b n is' f_is at p_is' Q_is) = absurd (cc)
  one_point p P Q (own_name k is self p_is P_is) (own_grab j b v is' body_is p_is' Q_is) = absurd (cc)
  one_point p P Q (own_place owner path g m is g_is gform gat p_is P_is) (own_name j is' self' p_is' Q_is) = absurd (cc)
  one_point p P Q (own_place owner path g m is g_is gform gat p_is P_is) (own_place o q f n is' f_is form at p_is' Q_is) =
      let item : Place owner path ≡ Place o q = cc in
      let there = subst (λ (i : Item). node_of x i ≡ Some n) (sym item) at in
      P_is ∙ ap main (same_node m n gat there) ∙ sym Q_is
  one_point p P Q (own_place owner path g m is g_is gform gat p_is P_is) (own_choice o q f n is' f_is choice at p_is' Q_is) = absurd (cc)
  one_point p P Q (own_place owner path g m is g_is gform gat p_is P_is) (own_left o q l b n is' f_is at p_is' Q_is) = absurd (cc)
  one_point p P Q (own_place owner path g m is g_is gform gat p_is P_is) (own_grab j b v is' body_is p_is' Q_is) =
      let item : Place owner path ≡ Place b (Inside v ∷ []) = cc in
      let there = subst (λ (i : Item). node_of x i ≡ Some m) item gat in
      P_is ∙ ap main (grab_node j b v m body_is there) ∙ sym Q_is
  one_point p P Q (own_choice owner path g m is g_is gchoice gat p_is P_is) (own_name j is' self' p_is' Q_is) = absurd (cc)
  one_point p P Q (own_choice owner path g m is g_is gchoice gat p_is P_is) (own_place o q f n is' f_is form at p_is' Q_is) = absurd (cc)
  one_point p P Q (own_choice owner path g m is g_is gchoice gat p_is P_is) (own_choice o q f n is' f_is choice at p_is' Q_is) =
      let item : Place owner path ≡ Place o q = cc in
      let there = subst (λ (i : Item). node_of x i ≡ Some n) (sym item) at in
      P_is ∙ ap change (same_node m n gat there) ∙ sym Q_is
  one_point p P Q (own_choice owner path g m is g_is gchoice gat p_is P_is) (own_left o q l b n is' f_is at p_is' Q_is) =
      let item : Place owner path ≡ Place o q = cc in
      let there = subst (λ (i : Item). node_of x i ≡ Some n) (sym item) at in
      P_is ∙ ap change (same_node m n gat there) ∙ sym Q_is
  one_point p P Q (own_choice owner path g m is g_is gchoice gat p_is P_is) (own_grab j b v is' body_is p_is' Q_is) = absurd (cc)
  one_point p P Q (own_left owner path l b m is g_is gat p_is P_is) (own_name j is' self' p_is' Q_is) = absurd (cc)
  one_point p P Q (own_left owner path l b m is g_is gat p_is P_is) (own_place o q f n is' f_is form at p_is' Q_is) = absurd (cc)
  one_point p P Q (own_left owner path l b m is g_is gat p_is P_is) (own_choice o q f n is' f_is choice at p_is' Q_is) =
      let item : Place owner path ≡ Place o q = cc in
      let there = subst (λ (i : Item). node_of x i ≡ Some n) (sym item) at in
      P_is ∙ ap change (same_node m n gat there) ∙ sym Q_is
  one_point p P Q (own_left owner path l b m is g_is gat p_is P_is) (own_left o q l' b' n is' f_is at p_is' Q_is) =
      let item : Place owner path ≡ Place o q = cc in
      let there = subst (λ (i : Item). node_of x i ≡ Some n) (sym item) at in
      P_is ∙ ap change (same_node m n gat there) ∙ sym Q_is
  one_point p P Q (own_left owner path l b m is g_is gat p_is P_is) (own_grab j c v is' body_is p_is' Q_is) = absurd (cc)
  one_point p P Q (own_grab k b v is body_is p_is P_is) (own_name j is' self' p_is' Q_is) = absurd (cc)
  one_point p P Q (own_grab k b v is body_is p_is P_is) (own_place o q f n is' f_is form at p_is' Q_is) =
      let item : Place b (Inside v ∷ []) ≡ Place o q = cc in
      let there = subst (λ (i : Item). node_of x i ≡ Some n) (sym item) at in
      P_is ∙ ap main (sym (grab_node k b v n body_is there)) ∙ sym Q_is
  one_point p P Q (own_grab k b v is body_is p_is P_is) (own_choice o q f n is' f_is choice at p_is' Q_is) = absurd (cc)
  one_point p P Q (own_grab k b v is body_is p_is P_is) (own_left o q l c n is' f_is at p_is' Q_is) = absurd (cc)
  one_point p P Q (own_grab k b v is body_is p_is P_is) (own_grab j c w is' body_is' p_is' Q_is) =
      let binds : b ≡ c = cc in
      let same = one_grab k j b v w body_is (rw (← binds) at body_is') in
      P_is ∙ ap (λ k. main (x.nodes k)) (sym same) ∙ sym Q_is

  -- ---- walks

  -- a walk of the script alongside one of the graph
  pub record Alongside (p : Point) (rest : List GraphPoint) : Type 0 where
    pub points : List Point
    pub walk : IsWalk x.meanings x.state p points
    pub long : length points ≡ length rest
    pub own : (q : Point) → Among q points → (Q : GraphPoint) × Among Q rest × Own x X q Q
    pub distinct : NoRepeats rest → NoRepeats points

  pub alongside : (p : Point) (P : GraphPoint) (rest : List GraphPoint) → Own x X p P
      → IsGraphWalk (λ P Q. GraphDepends x.functions x.graph x.died P Q) (P ∷ rest) → Alongside p rest
  alongside p P [] own w =
      record { points = []; walk = tt; long = refl; own = λ q none. absurd none; distinct = λ none. tt }
  alongside p P (Q ∷ rest) own w =
      let n = own_next p P Q own w.0 in
      more n.0 n.1 n.2 (alongside n.0 Q rest n.1 w.1)
    where
      more : (q : Point) → Own x X q Q → Depends x.meanings x.state p q → Alongside q rest → Alongside p (Q ∷ rest)
      more q q_own dep b =
          record {
            points = q ∷ b.points;
            walk = (dep, b.walk);
            long = ap (λ n. suc n) b.long;
            own = λ s among. found s among;
            distinct = λ once. (again once, b.distinct once.1);
          }
        where
          found : (s : Point) → Among s (q ∷ b.points) → (S : GraphPoint) × Among S (Q ∷ rest) × Own x X s S
          found s (inl e) = (Q, inl refl, rw e q_own)
          found s (inr later) = let r = b.own s later in (r.0, inr r.1, r.2)

          again : NoRepeats (Q ∷ rest) → Among q b.points → ⊥
          again once among =
              let r = b.own q among in
              let same = one_point q r.0 Q r.2 q_own in
              once.0 (rw same at r.1)
