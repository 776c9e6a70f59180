use Rattle.std.proofs.Common.{◌≡◌, ℕ, None, sym, ap, subst, ◌∙◌}
use Rattle.std.specs.Prelude.{is_some}
use Rattle.inc_value.specs.declared.node.Point.{Point}
use Rattle.inc_terms.specs.Depend.{main, change}
use Rattle.point_map.specs.Rows.{Rows, at, Holds, Changes}
use Rattle.necessary_graph.specs.Part.{IsInStep}
use Rattle.wiring.specs.Scoped.{AreTold, IsPointForgotten}
use Rattle.wiring.specs.declared.work.Work.{Work}
use Rattle.wiring.proofs.Forgetting.{height_stays_gone, told_rows, forgotten_alone, forgotten_both, elsewhere_alone, elsewhere_both, roots_alone, roots_both, last_graph, last_rows, row_before, height_before}
use Rattle.wiring.proofs.Linking.{none_if}
use Rattle.wiring.proofs.work.Work.forget.Goals as goal

pub forget_point-requires-then-holds-clause-there : goal.forget_point-requires-then-holds-clause-there
forget_point-requires-then-holds-clause-there c =
    let n = c.args.node in
    let old = c.args.self.now in
    let told = c.tell_survivors.new.self in
    let gone = c.forget_point.new.self in
    let first = c.tell_survivors.ensures.rest in
    let t : AreTold old told (main n) = subst (λ (x : Point). AreTold old told x) c.main.ensures c.tell_survivors.ensures.told in
    let b : IsPointForgotten told gone (main n) = subst (λ (x : Point). IsPointForgotten told gone x) c.main-2.ensures c.forget_point.ensures.forgotten in
    let there : Holds gone.rows (change n) = subst (λ (x : Point). Holds gone.rows x) c.change-own.ensures (sym c.holds.ensures ∙ c.if-holds.true) in
    let row : Holds old.rows (change n) = sym (ap is_some (row_before old told gone n (told_rows old told first) b)) ∙ there in
    let height : Holds gone.graph.heights (change n) = ap is_some (height_before old told gone n t b) ∙ c.requires.change row in
    subst (λ (x : Point). Holds gone.graph.heights x) (sym c.change-own.ensures) height

pub returns-then-holds-clause-forgotten : goal.returns-then-holds-clause-forgotten
returns-then-holds-clause-forgotten c =
    let n = c.args.node in
    let old = c.args.self.now in
    let told = c.tell_survivors.new.self in
    let gone = c.forget_point.new.self in
    let last = c.forget_point-then-holds.new.self in
    let rootless = c.forget_root.new.self in
    let scoped = c.count_dead.new.self in
    let first = c.tell_survivors.ensures.rest in
    let second = c.forget_point.ensures.rest in
    let third = c.forget_point-then-holds.ensures.rest in
    let fourth = c.forget_root.ensures.rest in
    let t : AreTold old told (main n) = subst (λ (x : Point). AreTold old told x) c.main.ensures c.tell_survivors.ensures.told in
    let b : IsPointForgotten told gone (main n) = subst (λ (x : Point). IsPointForgotten told gone x) c.main-2.ensures c.forget_point.ensures.forgotten in
    let k : IsPointForgotten (record gone { scoped = scoped }) last (change n) =
    subst (λ (x : Point). IsPointForgotten (record gone { scoped = scoped }) last x) c.change-own.ensures c.forget_point-then-holds.ensures.forgotten in
    let there : Holds gone.rows (change n) = subst (λ (x : Point). Holds gone.rows x) c.change-own.ensures (sym c.holds.ensures ∙ c.if-holds.true) in
    let roots = subst (λ (x : Point). Changes last.roots rootless.roots x None) c.change-own.ensures c.forget_root.ensures.root in
    forgotten_both old told gone n c.requires.died t (told_rows old told first) b scoped last rootless
    (last_graph old told gone first second scoped c.count_dead.ensures.nodes last rootless third fourth)
    (last_rows old told gone first second scoped c.count_dead.ensures.nodes last rootless third fourth) k c.count_dead-then-holds.new.self
    (sym (ap is_some (row_before old told gone n (told_rows old told first) b)) ∙ there)
    (roots_both old told gone first second scoped c.count_dead.ensures.nodes last rootless third fourth n roots)
    (elsewhere_both old told gone first second scoped c.count_dead.ensures.nodes last rootless third fourth c.count_dead-then-holds.new.self
    c.count_dead-then-holds.ensures.nodes)

pub returns-else-holds-clause-forgotten : goal.returns-else-holds-clause-forgotten
returns-else-holds-clause-forgotten c =
    let n = c.args.node in
    let old = c.args.self.now in
    let told = c.tell_survivors.new.self in
    let gone = c.forget_point.new.self in
    let scoped = c.count_dead.new.self in
    let first = c.tell_survivors.ensures.rest in
    let second = c.forget_point.ensures.rest in
    let t : AreTold old told (main n) = subst (λ (x : Point). AreTold old told x) c.main.ensures c.tell_survivors.ensures.told in
    let b : IsPointForgotten told gone (main n) = subst (λ (x : Point). IsPointForgotten told gone x) c.main-2.ensures c.forget_point.ensures.forgotten in
    let none = subst (λ (x : Point). at gone.rows x ≡ None) c.change-own.ensures (none_if _ (sym c.holds.ensures ∙ c.if-holds.false)) in
    forgotten_alone old told gone n c.requires.died t (told_rows old told first) b scoped
    (sym (row_before old told gone n (told_rows old told first) b) ∙ none) (roots_alone old told gone first second)
    (elsewhere_alone old told gone first second scoped c.count_dead.ensures.nodes)

pub returns-then-holds-clause-absent : goal.returns-then-holds-clause-absent
returns-then-holds-clause-absent c p none =
    let n = c.args.node in
    let old = c.args.self.now in
    let told = c.tell_survivors.new.self in
    let gone = c.forget_point.new.self in
    let last = c.forget_point-then-holds.new.self in
    let scoped = c.count_dead.new.self in
    let t : AreTold old told (main n) = subst (λ (x : Point). AreTold old told x) c.main.ensures c.tell_survivors.ensures.told in
    let b : IsPointForgotten told gone (main n) = subst (λ (x : Point). IsPointForgotten told gone x) c.main-2.ensures c.forget_point.ensures.forgotten in
    let k : IsPointForgotten (record gone { scoped = scoped }) last (change n) =
    subst (λ (x : Point). IsPointForgotten (record gone { scoped = scoped }) last x) c.change-own.ensures c.forget_point-then-holds.ensures.forgotten in
    let first = height_stays_gone told gone (main n) b p (ap (λ (m : Rows ℕ). at m p) t.graph.heights ∙ none) in
    ap (λ (w : Work). at w.graph.heights p) c.forget_root.ensures.rest ∙ height_stays_gone (record gone { scoped = scoped }) last (change n) k p first

pub returns-else-holds-clause-absent : goal.returns-else-holds-clause-absent
returns-else-holds-clause-absent c p none =
    let n = c.args.node in
    let old = c.args.self.now in
    let told = c.tell_survivors.new.self in
    let gone = c.forget_point.new.self in
    let t : AreTold old told (main n) = subst (λ (x : Point). AreTold old told x) c.main.ensures c.tell_survivors.ensures.told in
    let b : IsPointForgotten told gone (main n) = subst (λ (x : Point). IsPointForgotten told gone x) c.main-2.ensures c.forget_point.ensures.forgotten in
    height_stays_gone told gone (main n) b p (ap (λ (m : Rows ℕ). at m p) t.graph.heights ∙ none)

pub returns-then-holds-clause-step : goal.returns-then-holds-clause-step
returns-then-holds-clause-step c =
    subst (λ (w : Work). IsInStep w.graph) (sym c.forget_root.ensures.rest) c.forget_point-then-holds.ensures.step
