-- What formulas outside bodies show stays where live nodes outside scopes stay, whatever else of the graph, and of the state, is another.
use Rattle.std.proofs.Common.{◌≡◌, ℕ, List, [], ◌∷◌, map, Option, None, Some, sym, ap, subst, ◌∙◌}
use Rattle.inc_value.specs.declared.function.FnRef.{FnRef}
use Rattle.inc_value.specs.declared.node.NodeId.{NodeId}
use Rattle.inc_value.specs.declared.value.Value.{Value as GraphValue}
use Rattle.inc_terms.specs.Graph as graph
use Rattle.inc_terms.specs.Graph.{Graph, Row, Def}
use Rattle.inc_terms.specs.Term as term
use Rattle.inc_terms.specs.Term.{Functions, Term, Terms, refs}
use Rattle.script_model.specs.Formula.{State, Body, Formula, Formulas, Meanings, Literal, Name, Bound, Apply, Fold, If, Join, Bind, At, Steps, Now, End, More, Variable, Computed, Freeze, After, Every, Expert, Grab}
use Rattle.script_graph.specs.Today.{OwnNodes, OwnNodesOfAll, WholeNodes, OwnNodesOf}
use Rattle.transfer.specs.Both.{Both}
use Rattle.transfer.specs.Shows.{Built, Declares, Spot, Own, taken, Writes, WritesAll, Opens, Fills, Shows, ShowsAll, IsTop}
use Rattle.transfer.proofs.Places.{opened, plain_map, plain_fold, plain_if, plain_join, plain_bind}

-- live nodes outside scopes stay
abbrev pub TopsStay : Graph → Graph → Type 0
TopsStay G G' = (n : NodeId) (r : Row) → G.row n ≡ Some r → r.scope ≡ None → G'.row n ≡ Some r

module _ (F : Meanings) (M : Functions) (nodes : ℕ → NodeId) (s s' : State) (G G' : Graph) (died died' : NodeId → Option NodeId) (tops : TopsStay G G') where
  abbrev x : Both
  x = record { meanings = F; state = s; functions = M; graph = G; nodes = nodes; died = died }

  abbrev y : Both
  y = record { meanings = F; state = s'; functions = M; graph = G'; nodes = nodes; died = died' }

  -- ---- bodies

  mutual
    writes_on : (spots : List Spot) (t : Term) (f : Formula) → Writes x spots t f → Writes y spots t f
    writes_on spots t (Literal v) h = h
    writes_on spots t (Name k) h = h
    writes_on spots t (Bound k) h = h
    writes_on spots t (Apply f fs) h = (h.0, h.1, all_write_on spots h.0 fs h.2)
    writes_on spots t (Fold f v fs) h = (h.0, h.1, all_write_on spots h.0 fs h.2)
    writes_on spots t (If test a b) h =
        (h.0, h.1, h.2, h.3, writes_on spots h.0 test h.4, writes_on spots h.1 a h.5, writes_on spots h.2 b h.6)
    writes_on spots t (Join child) h = (h.0, h.1, writes_on spots h.0 child h.2)
    writes_on spots t (Bind left body) h =
        (h.0, h.1, h.2, h.3, writes_on spots h.0 left h.4, h.5, h.6, λ v. writes_on (Own v ∷ map taken h.5) (M.term h.1 v) body (h.7 v))
    writes_on spots t (At time) h = h
    writes_on spots t (Steps v steps) h = h
    writes_on spots t Now h = h

    all_write_on : (spots : List Spot) (ts : Terms) (fs : Formulas) → WritesAll x spots ts fs → WritesAll y spots ts fs
    all_write_on spots term.End End h = h
    all_write_on spots term.End (More f fs) h = h
    all_write_on spots (term.More t ts) End h = h
    all_write_on spots (term.More t ts) (More f fs) h = (writes_on spots t f h.0, all_write_on spots ts fs h.1)

  -- ---- outside bodies

  opens_on : (t u : Term) → Opens G (Built None) t u → Opens G' (Built None) t u
  opens_on t u o = (o.0, o.1, o.2, tops o.0 o.1 o.3 o.4, o.4, o.5)

  fills_none : (inner : List (Option ℕ)) (caps : Terms) → Fills x [] inner caps → Fills y [] inner caps
  fills_none [] caps h = h
  fills_none (j ∷ inner) caps h = h

  mutual
    pub shows_on : (t : Term) (f : Formula) → Shows x (Built None) [] t f → Shows y (Built None) [] t f
    shows_on t (Literal v) h = opens_on t _ h
    shows_on t (Name k) h = h
    shows_on t (Bound k) h = absurd (let none = h.1 in cc)
    shows_on t (Apply f fs) h = (h.0, opens_on t _ h.1, all_show_on h.0 fs h.2)
    shows_on t (Fold f v fs) h = (h.0, opens_on t _ h.1, all_show_on h.0 fs h.2)
    shows_on t (If test a b) h = (h.0, h.1, h.2, opens_on t _ h.3, shows_on h.0 test h.4, shows_on h.1 a h.5, shows_on h.2 b h.6)
    shows_on t (Join child) h = (h.0, opens_on t _ h.1, shows_on h.0 child h.2)
    shows_on t (Bind left body) h = (
      h.0,
      h.1,
      h.2,
      opens_on t _ h.3,
      shows_on h.0 left h.4,
      h.5,
      fills_none h.5 h.2 h.6,
      λ v. writes_on (Own v ∷ map taken h.5) (M.term h.1 v) body (h.7 v),
    )
    shows_on t (At time) h = opens_on t _ h
    shows_on t (Steps v steps) h = opens_on t _ h
    shows_on t Now h = opens_on t _ h

    all_show_on : (ts : Terms) (fs : Formulas) → ShowsAll x (Built None) [] ts fs → ShowsAll y (Built None) [] ts fs
    all_show_on term.End End h = h
    all_show_on term.End (More f fs) h = h
    all_show_on (term.More t ts) End h = h
    all_show_on (term.More t ts) (More f fs) h = (shows_on t f h.0, all_show_on ts fs h.1)

  pub top_on : (n : NodeId) (def : Def) → IsTop G n def → IsTop G' n def
  top_on n def h = (h.0, tops n h.0 h.1 h.2, h.2, h.3)

  -- ---- the nodes of a declaration

  shown_as : (t u : Term) (f : Formula) → t ≡ u → Shows x (Built None) [] t f → Shows x (Built None) [] u f
  shown_as t u f e h = subst (λ (v : Term). Shows x (Built None) [] v f) e h

  -- a row that a node outside scopes has stays
  row_on : (n : NodeId) (r : Row) (u : Term) → Opens G (Built None) (term.Ref n) u → G.row n ≡ Some r → G'.row n ≡ Some r
  row_on n r u opens row =
      let o = opened G None n u opens in
      let same : o.0 ≡ r = (let e : Some o.0 ≡ Some r = sym o.1 ∙ row in cc) in
      tops n r row (ap (λ (q : Row). q.scope) (sym same) ∙ o.2)

  module _ (P : NodeId → Type 0) where
    abbrev Shown : NodeId → Formula → Type 0
    Shown n f = Shows x (Built None) [] (term.Ref n) f

    abbrev AllShown : List NodeId → Formulas → Type 0
    AllShown ns fs = ShowsAll x (Built None) [] (refs ns) fs

    -- what a row of such a kind shows, its kids show
    map_kids : (n : NodeId) (r : Row) (g : FnRef) (kids : List NodeId) (fs : Formulas) (ts : Terms) → Opens G (Built None) (term.Ref n) (term.Map g ts)
        → G.row n ≡ Some r → r.def ≡ graph.Map g kids → ShowsAll x (Built None) [] ts fs → AllShown kids fs
    map_kids n r g kids fs ts opens row def h =
        let o = opened G None n (term.Map g ts) opens in
        let d = plain_map o.0.def g ts o.3 in
        let same : o.0 ≡ r = (let e : Some o.0 ≡ Some r = sym o.1 ∙ row in cc) in
        let defs : graph.Map g d.0 ≡ graph.Map g kids = sym d.1 ∙ (ap (λ (q : Row). q.def) same ∙ def) in
        let kids_are : d.0 ≡ kids = cc in
        subst (λ (us : Terms). ShowsAll x (Built None) [] us fs) (d.2 ∙ ap refs kids_are) h

    fold_kids : (n : NodeId) (r : Row) (g : FnRef) (v w : GraphValue) (kids : List NodeId) (fs : Formulas) (ts : Terms)
        → Opens G (Built None) (term.Ref n) (term.Fold g v ts)
        → G.row n ≡ Some r → r.def ≡ graph.Fold g w kids → ShowsAll x (Built None) [] ts fs → AllShown kids fs
    fold_kids n r g v w kids fs ts opens row def h =
        let o = opened G None n (term.Fold g v ts) opens in
        let d = plain_fold o.0.def g v ts o.3 in
        let same : o.0 ≡ r = (let e : Some o.0 ≡ Some r = sym o.1 ∙ row in cc) in
        let defs : graph.Fold g v d.0 ≡ graph.Fold g w kids = sym d.1 ∙ (ap (λ (q : Row). q.def) same ∙ def) in
        let kids_are : d.0 ≡ kids = cc in
        subst (λ (us : Terms). ShowsAll x (Built None) [] us fs) (d.2 ∙ ap refs kids_are) h

    -- the three kids of an if
    if_kids : (n : NodeId) (r : Row) (t a b : NodeId) (p q u : Term) → Opens G (Built None) (term.Ref n) (term.If p q u) → G.row n ≡ Some r
        → r.def ≡ graph.If t a b → (p ≡ term.Ref t) × (q ≡ term.Ref a) × (u ≡ term.Ref b)
    if_kids n r t a b p q u opens row def =
        let o = opened G None n (term.If p q u) opens in
        let d = plain_if o.0.def p q u o.3 in
        let same : o.0 ≡ r = (let e : Some o.0 ≡ Some r = sym o.1 ∙ row in cc) in
        let defs : graph.If d.0 d.1 d.2 ≡ graph.If t a b = sym d.3 ∙ (ap (λ (q : Row). q.def) same ∙ def) in
        let first : d.0 ≡ t = cc in
        let second : d.1 ≡ a = cc in
        let third : d.2 ≡ b = cc in
        (d.4 ∙ ap (λ m. term.Ref m) first, d.5 ∙ ap (λ m. term.Ref m) second, d.6 ∙ ap (λ m. term.Ref m) third)

    join_kid : (n : NodeId) (r : Row) (c : NodeId) (p : Term) → Opens G (Built None) (term.Ref n) (term.Join p) → G.row n ≡ Some r
        → r.def ≡ graph.Join c → p ≡ term.Ref c
    join_kid n r c p opens row def =
        let o = opened G None n (term.Join p) opens in
        let d = plain_join o.0.def p o.3 in
        let same : o.0 ≡ r = (let e : Some o.0 ≡ Some r = sym o.1 ∙ row in cc) in
        let defs : graph.Join d.0 ≡ graph.Join c = sym d.1 ∙ (ap (λ (q : Row). q.def) same ∙ def) in
        let first : d.0 ≡ c = cc in
        d.2 ∙ ap (λ m. term.Ref m) first

    bind_left : (n : NodeId) (r : Row) (l : NodeId) (g : FnRef) (captures : List NodeId) (p : Term) (f : FnRef) (caps : Terms)
        → Opens G (Built None) (term.Ref n) (term.Bind p f caps) → G.row n ≡ Some r → r.def ≡ graph.Bind l g captures → p ≡ term.Ref l
    bind_left n r l g captures p f caps opens row def =
        let o = opened G None n (term.Bind p f caps) opens in
        let d = plain_bind o.0.def p f caps o.3 in
        let same : o.0 ≡ r = (let e : Some o.0 ≡ Some r = sym o.1 ∙ row in cc) in
        let defs : graph.Bind d.0 f d.1 ≡ graph.Bind l g captures = sym d.2 ∙ (ap (λ (q : Row). q.def) same ∙ def) in
        let first : d.0 ≡ l = cc in
        d.3 ∙ ap (λ m. term.Ref m) first

    mutual
      own_on : (n : NodeId) (f : Formula) → Shown n f → OwnNodes G P n f → OwnNodes G' P n f
      own_on n (Literal v) h own = own
      own_on n (Name k) h own = own
      own_on n (Apply g fs) h own = (
        own.0,
        own.1,
        own.2,
        row_on n own.1 _ h.1 own.3,
        own.4,
        all_own_on own.2 fs (map_kids n own.1 g own.2 fs h.0 h.1 own.3 own.4 h.2) own.5,
      )
      own_on n (Fold g v fs) h own = (
        own.0,
        own.1,
        own.2,
        own.3,
        row_on n own.1 _ h.1 own.4,
        own.5,
        all_own_on own.3 fs (fold_kids n own.1 g _ own.2 own.3 fs h.0 h.1 own.4 own.5 h.2) own.6,
      )
      own_on n (If test a b) h own =
          let e = if_kids n own.1 own.2 own.3 own.4 h.0 h.1 h.2 h.3 own.5 own.6 in (
            own.0,
            own.1,
            own.2,
            own.3,
            own.4,
            row_on n own.1 _ h.3 own.5,
            own.6,
            own_on own.2 test (shown_as _ _ _ e.0 h.4) own.7,
            own_on own.3 a (shown_as _ _ _ e.1 h.5) own.8,
            own_on own.4 b (shown_as _ _ _ e.2 h.6) own.9,
          )
      own_on n (Join child) h own =
          let e = join_kid n own.1 own.2 h.0 h.1 own.3 own.4 in
          (own.0, own.1, own.2, row_on n own.1 _ h.1 own.3, own.4, own_on own.2 child (shown_as _ _ _ e h.2) own.5)
      own_on n (Bind left body) h own =
          let e = bind_left n own.1 own.2 own.3 own.4 h.0 h.1 h.2 h.3 own.5 own.6 in
          (own.0, own.1, own.2, own.3, own.4, row_on n own.1 _ h.3 own.5, own.6, own_on own.2 left (shown_as _ _ _ e h.4) own.7)
      own_on n (At time) h own = own
      own_on n (Steps v steps) h own = own
      own_on n Now h own = own
      own_on n f h own = absurd own

      all_own_on : (ns : List NodeId) (fs : Formulas) → AllShown ns fs → OwnNodesOfAll G P ns fs → OwnNodesOfAll G' P ns fs
      all_own_on [] End h own = own
      all_own_on [] (More f fs) h own = own
      all_own_on (n ∷ ns) End h own = own
      all_own_on (n ∷ ns) (More f fs) h own = (own_on n f h.0 own.0, all_own_on ns fs h.1 own.1)

  module _ (P Q : NodeId → Type 0) where
    whole_on : (n : NodeId) (f : Formula) → Shows x (Built None) [] (term.Ref n) f → WholeNodes G P Q n f → WholeNodes G' P Q n f
    whole_on n (Literal v) h own = own
    whole_on n (Name k) h own = own
    whole_on n (Apply g fs) h own = (
      own.0,
      own.1,
      own.2,
      row_on n own.1 _ h.1 own.3,
      own.4,
      all_own_on Q own.2 fs (map_kids Q n own.1 g own.2 fs h.0 h.1 own.3 own.4 h.2) own.5,
    )
    whole_on n (Fold g v fs) h own = (
      own.0,
      own.1,
      own.2,
      own.3,
      row_on n own.1 _ h.1 own.4,
      own.5,
      all_own_on Q own.3 fs (fold_kids Q n own.1 g _ own.2 own.3 fs h.0 h.1 own.4 own.5 h.2) own.6,
    )
    whole_on n (If test a b) h own =
        let e = if_kids Q n own.1 own.2 own.3 own.4 h.0 h.1 h.2 h.3 own.5 own.6 in (
          own.0,
          own.1,
          own.2,
          own.3,
          own.4,
          row_on n own.1 _ h.3 own.5,
          own.6,
          own_on Q own.2 test (shown_as _ _ _ e.0 h.4) own.7,
          own_on Q own.3 a (shown_as _ _ _ e.1 h.5) own.8,
          own_on Q own.4 b (shown_as _ _ _ e.2 h.6) own.9,
        )
    whole_on n (Join child) h own =
        let e = join_kid Q n own.1 own.2 h.0 h.1 own.3 own.4 in
        (own.0, own.1, own.2, row_on n own.1 _ h.1 own.3, own.4, own_on Q own.2 child (shown_as _ _ _ e h.2) own.5)
    whole_on n (Bind left body) h own =
        let e = bind_left Q n own.1 own.2 own.3 own.4 h.0 h.1 h.2 h.3 own.5 own.6 in
        (own.0, own.1, own.2, own.3, own.4, row_on n own.1 _ h.3 own.5, own.6, own_on Q own.2 left (shown_as _ _ _ e h.4) own.7)
    whole_on n (At time) h own = own
    whole_on n (Steps v steps) h own = own
    whole_on n Now h own = own
    whole_on n f h own = absurd own

    pub own_nodes_then : (n : NodeId) (b : Body) → Declares x n (Some b) → OwnNodesOf G P Q n b → OwnNodesOf G' P Q n b
    own_nodes_then n (Variable v) shows own = own
    own_nodes_then n (Computed f kept) shows own = whole_on n f shows own
    own_nodes_then n (Grab bind v is_live) shows own = own
    own_nodes_then n (After time) shows own = own
    own_nodes_then n (Every base span) shows own = own
    own_nodes_then n (Freeze child predicate frozen) (kid, top, shows, keeps) own =
        let rows : top.0 ≡ own.1 = (let e : Some top.0 ≡ Some own.1 = sym top.1 ∙ own.3 in cc) in
        let defs : graph.Freeze kid predicate ≡ graph.Freeze own.2 predicate = sym top.3 ∙ (ap (λ (q : Row). q.def) rows ∙ own.4) in
        let kids : kid ≡ own.2 = cc in (
          own.0,
          own.1,
          own.2,
          tops n own.1 own.3 (ap (λ (q : Row). q.scope) (sym rows) ∙ top.2),
          own.4,
          own_on Q own.2 child (shown_as (term.Ref kid) (term.Ref own.2) child (ap (λ (q : NodeId). term.Ref q) kids) shows) own.5,
        )
    own_nodes_then n (Expert f first links stale) shows own = own
