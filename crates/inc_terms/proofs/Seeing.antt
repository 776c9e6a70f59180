-- What a point's own function, agreement and exactness look at.
use Rattle.std.proofs.Common.{◌≡◌, inl, inr, List, [], ◌∷◌, ◌++◌, map, Option, None, Some, refl, sym, ap, ◌∙◌}
use Rattle.inc_value.specs.declared.node.NodeId.{NodeId}
use Rattle.inc_value.specs.declared.node.Part.{Part}
use Rattle.inc_value.specs.declared.node.Part.TheVariants.{Change, Main}
use Rattle.inc_value.specs.declared.node.Point.{Point}
use Rattle.inc_value.specs.declared.outcome.Outcome.{Outcome}
use Rattle.inc_value.specs.declared.outcome.Outcome.TheVariants.{Val, Invalid}
use Rattle.inc_value.specs.declared.value.Value.{Value}
use Rattle.inc_value.specs.Choice.{Among}
use Rattle.inc_terms.specs.Term.{Functions, refs}
use Rattle.inc_terms.specs.Graph as graph
use Rattle.inc_terms.specs.Graph.{Graph, Row, Def}
use Rattle.inc_terms.specs.Evaluate.{gathered, with_value}
use Rattle.inc_terms.specs.Depend.{main, change, fixed_reads, right_of, at_most_one}
use Rattle.inc_terms.specs.Local.{Exact, PartExact, shown, shown_of, by_sight, see_right, own_right, frozen_or_seen, own, PartAgrees, Agrees}
use Rattle.inc_terms.specs.Plan.{gate_of, targets, right_links, plan}
use Rattle.inc_terms.proofs.Plan.{among_left, among_right}

module _ (F : Functions) (G : Graph) (see see' : Point → Option Outcome) where
  pub gathered_same : (kids : List NodeId) → ((q : Point) → Among q (map main kids) → see' q ≡ see q)
      → gathered (by_sight see') (refs kids) ≡ gathered (by_sight see) (refs kids)
  gathered_same [] h = refl
  gathered_same (k ∷ ks) h = let e = h (main k) (inl refl) in let rest = gathered_same ks (λ q a. h q (inr a)) in rw (e, rest) refl

  right_side : (n : NodeId) (m : Option NodeId) → ((q : Point) → Among q (map main (at_most_one m)) → see' q ≡ see q)
      → see_right see' m ≡ see_right see m
  right_side n None h = refl
  right_side n (Some m) h = h (main m) (inl refl)

  right_by : (n : NodeId) (def : Def) (x : Option Outcome) → ((q : Point) → Among q (targets G n def x) → see' q ≡ see q)
      → with_value x (λ (v : Value). see_right see' (right_of G n def (Val v))) ≡ with_value x
      (λ (v : Value). see_right see (right_of G n def (Val v)))
  right_by n def None h = refl
  right_by n def (Some Invalid) h = refl
  right_by n def (Some (Val v)) h = right_side n (right_of G n def (Val v)) h

  right_same : (n : NodeId) (def : Def) → see' (change n) ≡ see (change n)
      → ((q : Point) → Among q (targets G n def (see (change n))) → see' q ≡ see q) → own_right G see' n def ≡ own_right G see n def
  right_same n def e h = rw e (right_by n def (see (change n)) h)

  pub own_same : (n : NodeId) (def : Def) → ((q : Point) → Among q (fixed_reads G n def Main) → see' q ≡ see q)
      → ((q : Point) → Among q (targets G n def (see (change n))) → see' q ≡ see q) → own F G see' n def ≡ own F G see n def
  own_same n (graph.If t a b) h rights = right_same n (graph.If t a b) (h (change n) (inl refl)) rights
  own_same n (graph.Join k) h rights = right_same n (graph.Join k) (h (change n) (inl refl)) rights
  own_same n (graph.Bind l f caps) h rights = right_same n (graph.Bind l f caps) (h (change n) (inl refl)) rights
  own_same n (graph.Map f kids) h rights = let e = gathered_same kids h in rw e refl
  own_same n (graph.Fold f v kids) h rights = let e = gathered_same kids h in rw e refl
  own_same n (graph.Expert f v kids) h rights = let e = gathered_same (G.lists n) h in rw e refl
  own_same n (graph.Freeze kid f) h rights = by_frozen (G.frozen n) refl
    where
      by_frozen : (x : Option Value) → G.frozen n ≡ x → frozen_or_seen (G.frozen n) (see' (main kid)) ≡ frozen_or_seen (G.frozen n) (see (main kid))
      by_frozen None e = rw e (h (main kid) (rw e (inl refl)))
      by_frozen (Some v) e = rw e refl
  own_same n _ h rights = refl

-- what a point's agreement looks at: its fixed reads and its right side, and not its gate
abbrev pub looks : Graph → (Point → Option Outcome) → Point → Row → List Point
looks G out p r = fixed_reads G p.node r.def p.part ++ right_links G out p.node r.def p.part

module _ (F : Functions) (G : Graph) (out out' : Point → Option Outcome) where
  pub shown_same : (q : Point) → out' q ≡ out q → shown G out' q ≡ shown G out q
  shown_same q e = ap (λ (x : Option Outcome). shown_of (G.row q.node) x) e

  module _ (p : Point) (r : Row) (row : G.row p.node ≡ Some r) (here : out' p ≡ out p)
      (links : (q : Point) → Among q (looks G out p r) → out' q ≡ out q) where
    fixed_same : (q : Point) → Among q (fixed_reads G p.node r.def p.part) → out' q ≡ out q
    fixed_same q a = links q (among_left q (fixed_reads G p.node r.def p.part) _ a)

    part_agrees : (part : Part) → p.part ≡ part → PartAgrees F G out p.node r.def part → PartAgrees F G out' p.node r.def part
    part_agrees Main is o =
        let e = here in
        let at_change : shown G out (change p.node) ≡ out (change p.node) = rw row refl in
        let same = own_same F G (shown G out) (shown G out') p.node r.def
        (λ q a. shown_same q (fixed_same q (rw is a)))
        (λ q a. shown_same q (links q (among_right q (fixed_reads G p.node r.def p.part) _ (rw is (rw at_change at a))))) in
        let mine : main p.node ≡ p = λ i. record { node = p.node; part = is' i } in
        (o.0, rw (mine, here, ← mine) o.1, same ∙ o.2)
      where
        is' : Main ≡ p.part
        is' = sym is
    part_agrees Change is o = λ s sub.
        let x = o s sub in
        let mine : change p.node ≡ p = λ i. record { node = p.node; part = is' i } in
        let seen = shown_same (main s) (fixed_same (main s) (rw (is, sub) (inl refl))) in
        (x.0, rw (mine, here, ← mine) x.1, seen ∙ x.2, x.3)
      where
        is' : Change ≡ p.part
        is' = sym is

    pub agrees_looks : Agrees F G out p → Agrees F G out' p
    agrees_looks agrees r' row' =
        let same : r' ≡ r = cc in
        rw same (part_agrees p.part refl (agrees r row))

  pub agrees_same : (p : Point) (r : Row) → G.row p.node ≡ Some r → out' p ≡ out p
      → ((q : Point) → Among q (plan G out p r) → out' q ≡ out q) → Agrees F G out p → Agrees F G out' p
  agrees_same p r row here links = agrees_looks p r row here (λ q a. links q (among_right q (gate_of r.scope) _ a))

module _ (F : Functions) (G : Graph) (out out' : Point → Option Outcome) (p : Point) (here : out' p ≡ out p) where
  -- a point's exactness is that of its own outcome
  part_exact : (r : Row) (part : Part) → p.part ≡ part → PartExact F G out p.node r.def part → PartExact F G out' p.node r.def part
  part_exact r Main is x =
      let mine : main p.node ≡ p = λ i. record { node = p.node; part = (sym is) i } in
      let e : shown G out' (main p.node) ≡ shown G out (main p.node) = shown_same F G out out' (main p.node) (rw mine here) in
      (x.0, e ∙ x.1, x.2)
  part_exact r Change is x = λ s sub.
      let mine : change p.node ≡ p = λ i. record { node = p.node; part = (sym is) i } in
      let e : out' (change p.node) ≡ out (change p.node) = rw mine here in
      let y = x s sub in (y.0, e ∙ y.1, y.2, y.3)

  pub exact_same : Exact F G out p → Exact F G out' p
  exact_same x r row = let y = x r row in (y.0, part_exact r p.part refl y.1)
