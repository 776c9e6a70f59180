-- A point that lacks its links is to have them: all that it reads, one child's after the other, or its change's alone, for which it waits.
use Rattle.std.proofs.Common.{◌≡◌, inl, inr, ℕ, zero, suc, ◌+◌, ◌<◌, ◌≤◌, List, [], ◌∷◌, map, length, drop, get_or, Option, None, Some, refl, sym, ap, subst, ◌∙◌, drop-cons, arith, add-one, ◌++◌, true, ◌⊎◌, false}
use Rattle.std.specs.Prelude.{Result, Ok, Err, IsErrAnd, IsTrue, IsFalse, Bool, is_some, IsSome}
use Rattle.inc_value.specs.declared.function.FnRef.{FnRef}
use Rattle.inc_value.specs.declared.value.Value.{Value}
use Rattle.inc_value.specs.declared.node.NodeId.{NodeId}
use Rattle.inc_value.specs.declared.node.Part.TheVariants.{Main, Change}
use Rattle.inc_value.specs.declared.node.Point.{Point}
use Rattle.inc_value.specs.declared.outcome.Outcome.{Outcome}
use Rattle.inc_value.specs.Choice.{here, Among, Every, step}
use Rattle.inc_terms.specs.declared.def.Def as declared
use Rattle.inc_terms.specs.declared.def.Def.TheVariants as form
use Rattle.inc_terms.specs.Code.{def_of}
use Rattle.inc_terms.specs.Depend.{main, change, subject_of, fixed_reads, change_reads, kids_of, main_reads as links_of_main, unfrozen}
use Rattle.inc_terms.specs.Graph.{Graph, Row, Def, Expert, kids}
use Rattle.inc_terms.specs.Plan.{targets, gate_of, plan, right_links}
use Rattle.inc_terms.specs.Term.{Functions}
use Rattle.point_map.specs.Rows.{at, Rows, Holds}
use Rattle.necessary_graph.specs.Part.{Needed}
use Rattle.node_arena.specs.Arena.{Arena, row_at, NamesGiven}
use Rattle.stabilize_round.specs.Invariant.{Invariant}
use Rattle.stabilize_round.specs.State.{State, Start, at_point}
use Rattle.stabilize_round.specs.Steps.{Wired, plainly}
use Rattle.stabilize_round.proofs.Machine.{moves_keep}
use Rattle.stabilize_round.proofs.Steps.{wired_moves}
use Rattle.wiring.specs.Answers.{WireAnswers, ConnectAnswers}
use Rattle.wiring.specs.Growing.{Grows}
use Rattle.wiring.specs.Kept.{IsKept, IsTop}
use Rattle.node_outcomes.specs.Row.{is_full, stage_in, IsRewritten, with_stage}
use Rattle.expert_nodes.specs.Experts.{ExpertChanges, ExpertPlace, IsCreated, expert_of, fresh_at, kids_at, taken_at, taken_up}
use Rattle.wiring.specs.Stands.{MatchesState, hand, debts, Counts}
use Rattle.wiring.specs.Experts.{ReadSame}
use Rattle.wiring.specs.Graph.{graph_at}
use Rattle.wiring.specs.Wiring.{IsDue, IsTarget, KeepsPlaces, GateRan, AreUnlinked, LacksLinks, IsMarked, Wires}
use Rattle.wiring.specs.declared.refused.Refused.{Refused}
use Rattle.node_outcomes.specs.declared.row.Stage.TheVariants as code
use Rattle.wiring.specs.declared.work.Work.{Work}
use Rattle.wiring.proofs.Agreeing.{no_target}
use Rattle.wiring.proofs.Answering.{same_places, grows_here, grows_along, ends_ok, ends_refused}
use Rattle.wiring.proofs.Gating.{main_is_target, ran_free}
use Rattle.wiring.proofs.Linking.{none_if}
use Rattle.wiring.proofs.Lifting.{fixed_due, gates_after, full_finishes, Lifts, DueAfter, staged_lifts}
use Rattle.wiring.proofs.Raising.{wired_then, wired_after, wired_graph, wired_settled, leaves_hand, goes_up, own_alone, no_change, one_row}
use Rattle.wiring.proofs.Staying.{KeepsMost, most_kept_there, most_stands, row_of_state, same_before, stage_is}
use Rattle.wiring.proofs.Owing.{owes_none, owes_partly, owes_same, owes_staged}
use Rattle.wiring.proofs.Reading.{fresh_of_others, none_fresh, read_taken_up}
use Rattle.wiring.proofs.TakingAll.{places_then}
use Rattle.std.proofs.lemmas.Option.{none-some, same_Some}
use Rattle.inc_value.specs.declared.node.Part.{Part}
use Rattle.inc_terms.specs.Within.{Given}
use Rattle.stabilize_round.specs.State as machine
use Rattle.stabilize_round.specs.Wire.{Finish}
use Rattle.node_outcomes.specs.Computing.{AreExperts, has_part, is_expert, is_expert_def}
use Rattle.node_outcomes.specs.Progress.{Progress}
use Rattle.stabilize_round.specs.Machine as move
use Rattle.stabilize_round.proofs.Parts.{bool_cases}
use Rattle.stabilize_round.proofs.Points.{at_same, at_other, node_or_other, same_or_other}
use Rattle.wiring.proofs.Scheduling.{put_in, put_stands, scheduled}

-- in the graph a point reads these points, and has no right side
pub record Reads (G : Graph) (p : Point) (r : Row) (links : List Point) : Type 0 where
  pub fixed : fixed_reads G p.node r.def p.part ≡ links
  pub no_right : (x : Option Outcome) → p.part ≡ Main → targets G p.node r.def x ≡ []

-- a main of one point reads its children's mains
pub main_reads : (G : Graph) (p : Point) (r : Row) → p.part ≡ Main → subject_of r.def ≡ None → Reads G p r (map main (kids_of G p.node r.def))
main_reads G p r part one = record {
  fixed = ap (fixed_reads G p.node r.def) part ∙ ap (λ (x : Option NodeId). links_of_main p.node x (kids_of G p.node r.def)) one;
  no_right = λ x is. no_target G p.node r.def one x;
}

-- moves lead from where the point is owed all to where it is owed these
pub record IsHanded (arena : Arena) (old new : Work) (p : Point) (all owed : List Point) : Type 0 where
  pub hands : (F : Functions) (z : Start) (s : State) (counts : Counts) → Invariant F z s → MatchesState arena old counts (Some (hand p all)) s
      → AreUnlinked (Some (hand p [])) s → (t : State) × Wired F z s t × MatchesState arena new counts (Some (hand p owed)) t × AreUnlinked (Some (hand p [])) t
  pub row : at new.rows p ≡ at old.rows p
  pub needed : Needed new.graph p
  pub kept : IsKept arena new
  pub places : KeepsPlaces old new
  pub grows : Grows old new
  pub none_fresh : fresh_at new.experts p.node ≡ []

pub handed_none : (arena : Arena) (old : Work) (p : Point) (all : List Point) → Needed old.graph p → IsKept arena old
    → fresh_at old.experts p.node ≡ [] → IsHanded arena old old p all all
handed_none arena old p all need kept none = record {
  hands = λ F z s counts inv on unlinked. (s, plainly here, on, unlinked);
  row = refl;
  needed = need;
  kept = kept;
  places = same_places old;
  grows = grows_here old;
  none_fresh = none;
}

-- what an expert is linked to is taken up
module _ (arena : Arena) (old : Work) (p : Point) (experts : List ExpertPlace) (created : IsCreated old.experts p.node)
    (taken : ExpertChanges old.experts experts p.node (Some (taken_up (expert_of old.experts p.node)))) where
  abbrev pub up : Work
  up = record old { experts = experts }

  up_reads : ReadSame old.experts experts
  up_reads = read_taken_up old.experts experts p.node created taken

  up_most : KeepsMost old up
  up_most = record {
    rows = λ a k e. same_before old.rows a k e;
    held = λ a. refl;
    roots = refl;
    deaths = refl;
    ran = refl;
    round = refl;
    lists = record { pairs = refl; scoped = refl };
    experts = up_reads;
  }

  pub up_kept : IsKept arena old → IsKept arena up
  up_kept k = most_kept_there old up up_most arena k k.step (λ a. refl) (λ a n. n) (λ a b l. l) k.heap

  -- other points are owed what they were
  module _ (alone : (a : Point) → (p ≡ a → ⊥) → p.node ≡ a.node → at old.rows a ≡ None) where
    up_debts : (needed : Point → Bool) (a : Point) → (p ≡ a → ⊥) → debts up needed a ≡ debts old needed a
    up_debts needed a ne = elim (node_or_other p.node a.node) [
      | inl same ↦
          let none = ap (λ (x : Option Progress). is_full (stage_in x)) (alone a ne same) in
          owes_partly up (needed a) a none ∙ sym (owes_partly old (needed a) a none)
      | inr other ↦ owes_same old up (needed a) a refl (fresh_of_others old.experts experts p.node created taken a.node (λ e. other (sym e)))
    ]

    up_stands : (s : State) (counts : Counts) (owed : List Point) → MatchesState arena old counts (Some (hand p owed)) s
        → MatchesState arena up counts (Some (hand p owed)) s
    up_stands s counts owed on = most_stands old up up_most arena s s on refl (record {
      links = on.links;
      root = on.root;
      needed = on.needed;
      height = on.height;
      heap = on.heap;
      stage = on.stage;
      owed = λ a. on.owed a ∙ up_owed a;
      todo = on.todo;
      retries = on.retries;
    })
      where
        up_owed : (a : Point) → at_point p owed (debts old s.needed) a ≡ at_point p owed (debts up s.needed) a
        up_owed a = elim (same_or_other p a) [
          | inl e ↦ subst (λ (x : Point). at_point p owed (debts old s.needed) x ≡ at_point p owed (debts up s.needed) x) e
              (at_same p owed (debts old s.needed) ∙ sym (at_same p owed (debts up s.needed)))
          | inr ne ↦ at_other p owed (debts old s.needed) a ne ∙ (sym (up_debts s.needed a ne) ∙ sym (at_other p owed (debts up s.needed) a ne))
        ]

    pub handed_up : (all : List Point) → Needed old.graph p → IsKept arena old → IsHanded arena old up p all all
    handed_up all need kept = record {
      hands = λ F z s counts inv on unlinked. (s, plainly here, up_stands s counts all on, unlinked);
      row = refl;
      needed = need;
      kept = up_kept kept;
      places = record { rows = λ a. refl; roots = λ a. refl; deaths = refl; round = refl; experts = up_reads };
      grows = λ points covers. omega arith;
      none_fresh = none_fresh old.experts experts p.node created taken;
    }

module _ (arena : Arena) (p : Point) (is_main : p.part ≡ Main) (r : Row) (row : row_at arena p.node ≡ Some r) (one : subject_of r.def ≡ None)
    (old mid : Work) (ran : GateRan arena old p) (rest : List Point) (all : List Point) where
  module _ (q : Point) (among : Among q (map main (kids_of (graph_at arena old) p.node r.def))) (so : IsHanded arena old mid p all (q ∷ rest)) where
    -- links come on while the graph stays
    reads : (s t : State) (counts : Counts) → MatchesState arena old counts (Some (hand p all)) s → t.graph ≡ s.graph
        → Reads t.graph p r (map main (kids_of (graph_at arena old) p.node r.def))
    reads s t counts on same = subst (λ (G : Graph). Reads G p r (map main (kids_of (graph_at arena old) p.node r.def))) (sym (same ∙ on.graph))
        (main_reads (graph_at arena old) p r is_main one)

    kid_due : (F : Functions) (z : Start) (s : State) (counts : Counts) → Invariant F z s → MatchesState arena old counts (Some (hand p all)) s
        → AreUnlinked (Some (hand p [])) s → (t : State) × Wired F z s t × IsDue F z t arena mid counts p q rest
    kid_due F z s counts inv on unlinked =
        let a = so.hands F z s counts inv on unlinked in
        let here = reads s a.0 counts on (wired_graph F z s a.0 a.1) in (
          a.0,
          a.1,
          fixed_due F z a.0 arena mid counts p q rest r row (subst (λ (xs : List Point). Among q xs) (sym here.fixed) among)
              (gates_after s a.0 arena old counts p all r row ran on (wired_settled F z s a.0 a.1))
              (λ part at_right. nowhere (subst (λ (xs : List Point). Among q xs) (here.no_right ((a.0).out (change p.node)) part) at_right))
              (moves_keep F z s a.0 (wired_moves F z s a.0 a.1) inv) a.2 a.3,
        )
      where
        nowhere : Among q [] → ⊥
        nowhere h = h

    module _ (new : Work) where
      kid_places : KeepsPlaces mid new → KeepsPlaces old new
      kid_places places = places_then old mid new so.places places

      kid_grows : Grows mid new → Grows old new
      kid_grows grows = grows_along old mid new so.places so.grows grows

      module _ {on : Bool} (a : ConnectAnswers arena mid new p q (Ok on)) where
        pub kid_on : IsTrue on → IsHanded arena old new p all rest
        kid_on t = record {
          hands = λ F z s counts inv on unlinked.
              let b = kid_due F z s counts inv on unlinked in
              let d = a.linked t F z b.0 counts rest b.2 in
              (d.0, wired_then F z s b.0 d.0 b.1 d.1, d.2, d.3);
          row = a.row t ∙ so.row;
          needed = (a.needed t).0;
          kept = a.kept;
          places = kid_places a.places;
          grows = kid_grows a.pushed;
          none_fresh = ap (λ (x : List ExpertPlace). fresh_at x p.node) a.experts ∙ so.none_fresh;
        }

        pub kid_gone : {A : Type 0} (x : A) → IsFalse on → WireAnswers arena old new (Some (hand p all)) (Ok x)
        kid_gone x off = ends_ok x arena old new (λ F z s counts inv on unlinked.
            let b = kid_due F z s counts inv on unlinked in
            let d = (a.gone off).0 F z b.0 counts rest b.2 in
            (d.0, wired_then F z s b.0 d.0 b.1 d.1, d.2, d.3)) (kid_places a.places) a.kept (kid_grows a.pushed)

      pub kid_refused : {A : Type 0} (r : Result A Refused) (e : Refused) → IsErrAnd r (λ y. y ≡ e) → ConnectAnswers arena mid new p q (Err e)
          → WireAnswers arena old new (Some (hand p all)) r
      kid_refused r e is a = ends_refused r e arena old new is (λ F z s counts inv on unlinked.
          let b = kid_due F z s counts inv on unlinked in
          let d = a.refused F z b.0 counts rest b.2 in
          (d.0, Some (hand p (q ∷ rest)), wired_then F z s b.0 d.0 b.1 d.1, d.2, d.3)) (kid_places a.places) a.kept

-- all links are on
pub handed_last : {A : Type 0} (x : A) (arena : Arena) (old new : Work) (p : Point) (all : List Point) → stage_in (at old.rows p) ≡ Some code.Full
    → IsHanded arena old new p all [] → WireAnswers arena old new (Some (hand p all)) (Ok x)
handed_last x arena old new p all full so = ends_ok x arena old new (λ F z s counts inv on unlinked.
    let a = so.hands F z s counts inv on unlinked in
    let out = leaves_hand F z a.0 arena new counts p a.2 a.3 (owes_none new ((a.0).needed p) p so.none_fresh) (full_finishes a.0 arena new counts p a.2 (ap stage_in so.row ∙ full)) in
    (out.0, wired_after F z s a.0 out.0 a.1 out.1, out.2, out.3)) so.places so.kept so.grows

-- ---- lists

kid_among : (ns : List NodeId) (i : ℕ) (d : NodeId) → i < length ns → Among (main (get_or ns i d)) (map main ns)
kid_among [] i d below = absurd (omega (arith, below))
kid_among (n ∷ ns) zero d below = inl refl
kid_among (n ∷ ns) (suc i) d below = inr (kid_among ns i d (omega (arith, below)))

pub id_among : (ns : List NodeId) (i : ℕ) (d : NodeId) → i < length ns → Among (get_or ns i d) ns
id_among [] i d below = absurd (omega (arith, below))
id_among (n ∷ ns) zero d below = inl refl
id_among (n ∷ ns) (suc i) d below = inr (id_among ns i d (omega (arith, below)))

next_owed : (ns : List NodeId) (i : ℕ) (d : NodeId) → i < length ns → map main (drop i ns) ≡ main (get_or ns i d) ∷ map main (drop (i + 1) ns)
next_owed ns i d below = rw (add-one, drop-cons ns i d) refl

pub drop_none : (ns : List NodeId) (i : ℕ) → length ns ≤ i → drop i ns ≡ []
drop_none [] zero end = refl
drop_none [] (suc i) end = refl
drop_none (n ∷ ns) zero end = absurd (omega (arith, end))
drop_none (n ∷ ns) (suc i) end = drop_none ns i (omega (arith, end))

-- ---- the next child

-- it is of those that are read, and owed first
pub record IsNext (arena : Arena) (old now : Work) (p : Point) (r : Row) (all : List Point) (q : Point) (rest : List Point) : Type 0 where
  pub among : Among q (map main (kids_of (graph_at arena old) p.node r.def))
  pub handed : IsHanded arena old now p all (q ∷ rest)

pub next_kid : (arena : Arena) (old now : Work) (p : Point) (r : Row) (all : List Point) (ns : List NodeId) (i : ℕ) (d : NodeId) (q : Point)
    → ns ≡ kids_of (graph_at arena old) p.node r.def → q ≡ main (get_or ns i d) → i < length ns → IsHanded arena old now p all (map main (drop i ns))
    → IsNext arena old now p r all q (map main (drop (i + 1) ns))
next_kid arena old now p r all ns i d q read is below so = record {
  among = subst (λ (xs : List NodeId). Among q (map main xs)) read (subst (λ (x : Point). Among x (map main ns)) (sym is) (kid_among ns i d below));
  handed = subst (λ (xs : List Point). IsHanded arena old now p all xs)
      (next_owed ns i d below ∙ ap (λ (x : Point). x ∷ map main (drop (i + 1) ns)) (sym is)) so;
}

-- ---- what a point reads

-- and of a change the node has a subject
pub never_alone : (arena : Arena) (work : Work) (p : Point) (r : Row) → IsKept arena work → Holds work.rows p → row_at arena p.node ≡ Some r → p.part ≡ Change
    → subject_of r.def ≡ None → ⊥
never_alone arena work p r kept there row part alone =
    let live : has_part (row_at arena p.node) p.part ≡ true = sym (kept.rows p) ∙ there in
    let of : has_part (row_at arena p.node) p.part ≡ is_some (subject_of r.def) =
    ap (λ (x : Option Row). has_part x p.part) row ∙ ap (λ (x : Part). has_part (Some r) x) part in
    let gone = ap (λ (x : Option NodeId). is_some x) alone in
    cc

-- a main is its node's
pub main_of : (p : Point) → p.part ≡ Main → main p.node ≡ p
main_of p e = ap (λ (x : Part). record { node = p.node; part = x }) (sym e)

every_among : (P : NodeId → Type 0) (ns : List NodeId) (n : NodeId) → Every P ns → Among n ns → P n
every_among P [] n all among = absurd among
every_among P (m ∷ ms) n all (inl e) = subst P (sym e) all.0
every_among P (m ∷ ms) n all (inr among) = every_among P ms n all.1 among

-- a child was given
pub kid_is_given : (count : ℕ) (d : declared.Def) → NamesGiven count (def_of d) → (n : NodeId) → Among n (kids (def_of d)) → Given count n
kid_is_given count (form.Map f ks) names n among = every_among (Given count) ks n names.1 among
kid_is_given count (form.Fold f v ks) names n among = every_among (Given count) ks n names.2 among
kid_is_given count (form.Freeze k f) names n (inl e) = subst (Given count) (sym e) names.1
kid_is_given count (form.Freeze k f) names n (inr none) = absurd none
kid_is_given count _ names n among = absurd among

-- what is neither a freeze nor an expert reads the children that it lists, and so does a freeze that keeps no value
pub plain_kids : (G : Graph) (n : NodeId) (d : declared.Def) → ((f : FnRef) (v : Value) → d ≡ form.Expert f v → ⊥)
    → ((k : NodeId) (f : FnRef) → d ≡ form.Freeze k f → ⊥) → kids_of G n (def_of d) ≡ kids (def_of d)
plain_kids G n (form.Expert f v) expert freeze = absurd (expert f v refl)
plain_kids G n (form.Freeze k f) expert freeze = absurd (freeze k f refl)
plain_kids G n _ expert freeze = refl

pub unfrozen_kids : (G : Graph) (n : NodeId) (d : declared.Def) (k : NodeId) (f : FnRef) → d ≡ form.Freeze k f → G.frozen n ≡ None
    → kids_of G n (def_of d) ≡ kids (def_of d)
unfrozen_kids G n d k f is none =
    ap (λ (x : declared.Def). kids_of G n (def_of x)) is ∙ (ap (unfrozen k) none ∙ sym (ap (λ (x : declared.Def). kids (def_of x)) is))

-- so was the subject
pub subject_is_given : (count : ℕ) (d : declared.Def) → NamesGiven count (def_of d) → (m : NodeId) → subject_of (def_of d) ≡ Some m → Given count m
subject_is_given count (form.If t a b) names m is = subst (Given count) (same_Some t m is) names.0
subject_is_given count (form.Join k) names m is = subst (Given count) (same_Some k m is) names
subject_is_given count (form.Bind l f caps) names m is = subst (Given count) (same_Some l m is) names.1
subject_is_given count _ names m is = absurd (none-some m is)

nothing_more : (xs ys : List Point) → ys ≡ [] → xs ++ ys ≡ xs
nothing_more [] ys e = e
nothing_more (x ∷ xs) ys e = ap (λ (r : List Point). x ∷ r) (nothing_more xs ys e)

-- a change reads its subject's main
pub change_reads_subject : (p : Point) (r : Row) (m : NodeId) → p.part ≡ Change → subject_of r.def ≡ Some m → (G : Graph) → Reads G p r (main m ∷ [])
change_reads_subject p r m part sub G = record {
  fixed = ap (fixed_reads G p.node r.def) part ∙ ap (λ (x : Option NodeId). change_reads x) sub;
  no_right = λ x is. absurd (let e = part in cc);
}

-- ---- it goes up to all its links

module _ (arena : Arena) (p : Point) (r : Row) (row : row_at arena p.node ≡ Some r) (links : List Point) where
  module _ (G : Graph) (reads : Reads G p r links) where
    on_right : (out : Point → Option Outcome) (part : Part) → p.part ≡ part → right_links G out p.node r.def part ≡ []
    on_right out Main is = reads.no_right (out (change p.node)) is
    on_right out Change is = refl

    -- to its gate's, and to those that it reads whatever is given
    plan_is : (out : Point → Option Outcome) → plan G out p r ≡ gate_of r.scope ++ links
    plan_is out = ap (λ (xs : List Point). gate_of r.scope ++ xs)
        (nothing_more (fixed_reads G p.node r.def p.part) (right_links G out p.node r.def p.part) (on_right out p.part refl) ∙ reads.fixed)

    rightless : (x : Option Outcome) → p.part ≡ Main → (q : Point) → Among q (targets G p.node r.def x) → ⊥
    rightless x part q among = nowhere (subst (λ (xs : List Point). Among q xs) (reads.no_right x part) among)
      where
        nowhere : Among q [] → ⊥
        nowhere h = h

  module _ (old : Work) (need : Needed old.graph p) (lacks : LacksLinks arena old p) (ran : GateRan arena old p) (rows : Rows Progress)
      (w : IsRewritten old.rows rows p (with_stage code.Full)) where
    pub full_lifts : Reads (graph_at arena old) p r links → Lifts arena old (record old { rows = rows }) p links
    full_lifts reads = staged_lifts arena old rows p code.Full links w (λ F z s counts inv on.
        let here = subst (λ (G : Graph). Reads G p r links) (sym on.graph) reads in
        goes_up arena p r row old need lacks ran F z s counts inv on machine.Full links (plan_is s.graph here s.out)
        (λ full part q among. rightless s.graph here (s.out (change p.node)) part q among))

    -- where it reads one point
    pub full_due : ((G : Graph) → Reads G p r links) → (q : Point) → links ≡ q ∷ [] → DueAfter arena old (record old { rows = rows }) p q
    full_due reads q one F z s t counts before same inv on unlinked =
        fixed_due F z t arena (record old { rows = rows }) counts p q [] r row
        (subst (λ (xs : List Point). Among q xs) (sym ((reads t.graph).fixed ∙ one)) (inl refl))
        (gates_after s t arena old counts p [] r row ran before same)
        (λ part among. rightless t.graph (reads t.graph) (t.out (change p.node)) part q among) inv on unlinked

module _ (arena : Arena) (n : NodeId) (r : Row) (row : row_at arena n ≡ Some r) (two : IsSome (subject_of r.def)) where
  -- it reads its change
  reads_own : (G : Graph) → Among (change n) (links_of_main n (subject_of r.def) (kids_of G n r.def))
  reads_own G = subst (λ (xs : List Point). Among (change n) xs) (sym (own_alone n (subject_of r.def) (kids_of G n r.def) two)) (inl refl)

  module _ (old : Work) (need : Needed old.graph (main n)) (lacks : LacksLinks arena old (main n)) (ran : GateRan arena old (main n)) (rows : Rows Progress)
      (w : IsRewritten old.rows rows (main n) (with_stage code.Static)) where
    pub pair_lifts : Lifts arena old (record old { rows = rows }) (main n) (change n ∷ [])
    pair_lifts = staged_lifts arena old rows (main n) code.Static (change n ∷ []) w (λ F z s counts inv on.
        goes_up arena (main n) r row old need lacks ran F z s counts inv on machine.Static (change n ∷ [])
        (ap (λ (xs : List Point). gate_of r.scope ++ xs) (own_alone n (subject_of r.def) (kids_of s.graph n r.def) two))
        (λ full. absurd (let e = full in cc)))

    pub pair_due : DueAfter arena old (record old { rows = rows }) (main n) (change n)
    pair_due F z s t counts before same inv on unlinked =
        fixed_due F z t arena (record old { rows = rows }) counts (main n) (change n) [] r row (reads_own t.graph)
        (gates_after s t arena old counts (main n) [] r row ran before same)
        (λ part among. no_change t.graph n r.def (t.out (change n)) n among) inv on unlinked

-- ---- what it waits for is in the heap

module _ (arena : Arena) (n : NodeId) (r : Row) (row : row_at arena n ≡ Some r) (two : IsSome (subject_of r.def)) (old new : Work)
    (need : Needed old.graph (main n)) (own_need : Needed old.graph (change n)) (static : stage_in (at old.rows (main n)) ≡ Some code.Static)
    (marked : IsMarked old.graph new.graph (change n)) (rest : new ≡ record old { graph = new.graph }) where
  pub pair_waits : Wires arena old new (Some (hand (main n) []))
  pair_waits F z s counts inv on unlinked =
      let out = leaves_hand F z (put_in (change n) old new marked rest s arena counts (Some (hand (main n) [])) on) arena new counts (main n)
      (put_stands (change n) old new marked rest s arena counts (Some (hand (main n) [])) on) unlinked
      (owes_staged new (s.needed (main n)) (main n) code.Static static_now (λ e. cc)) finishes in
      (out.0, plainly (step (move.schedule (scheduled (change n) old new marked rest s arena counts (Some (hand (main n) [])) on own_need may) refl, tt) out.1), out.2, out.3)
    where
      static_now : stage_in (at new.rows (main n)) ≡ Some code.Static
      static_now = ap (λ (w : Work). stage_in (at w.rows (main n))) rest ∙ static

      row_is : s.graph.row n ≡ Some r
      row_is = row_of_state on n ∙ row

      is_static : s.stage (main n) ≡ machine.Static
      is_static = stage_is on (main n) code.Static static

      may : (s.heap (change n) ≡ true) ⊎ ((x : Row) × (s.graph.row n ≡ Some x) × (s.needed (change n) ≡ true)
          × ((s.settled (change n) ≡ false) ⊎ ((◌≡◌ {A = Part} Change Change) × (s.todo (main n) ≡ true) × (s.stage (main n) ≡ machine.Static))))
      may = elim (bool_cases (s.todo (main n))) [
        | inl todo ↦ inr (r, row_is, (on.needed (change n)).1 own_need, inr (refl, todo, is_static))
        | inr out ↦ inl (inv.waits.static (main n) r row_is ((on.needed (main n)).1 need) out is_static).3
      ]

      subject : (x : Option NodeId) → subject_of r.def ≡ x → is_some x ≡ true → (m : NodeId) × (subject_of r.def ≡ Some m)
      subject None e some = absurd (cc)
      subject (Some m) e some = (m, e)

      finishes : Finish (put_in (change n) old new marked rest s arena counts (Some (hand (main n) [])) on) (main n)
      finishes = record {
        owed = on.owed (main n) ∙ at_same (main n) [] (debts old s.needed);
        bare = λ k e. let x = is_static in cc;
        gated = λ r' e k g. absurd (let x = is_static in cc);
        static = λ r' e k g.
            let m = subject (subject_of r.def) refl two in
            let same = one_row arena n r r' row (sym (row_of_state on n) ∙ e) in
            (refl, m.0, ap (λ (x : Row). subject_of x.def) same ∙ m.1, marked.told own_need);
      }

-- ---- an expert's list

-- an expert's row
pub expert_row : (arena : Arena) (experts : List ExpertPlace) → AreExperts arena experts → (n : NodeId) → IsCreated experts n
    → (r : Row) × (f : FnRef) × (v : Value) × (ns : List NodeId) × (row_at arena n ≡ Some r) × (r.def ≡ Expert f v ns)
expert_row arena experts are n created = of (row_at arena n) refl (sym (are n) ∙ created)
  where
    by : (r : Row) (d : Def) → r.def ≡ d → is_expert_def d ≡ true → (f : FnRef) × (v : Value) × (ns : List NodeId) × (r.def ≡ Expert f v ns)
    by r (Expert f v ns) e is = (f, v, ns, e)
    by r _ e is = absurd (cc)

    of : (x : Option Row) → row_at arena n ≡ x → is_expert x ≡ true
        → (r : Row) × (f : FnRef) × (v : Value) × (ns : List NodeId) × (row_at arena n ≡ Some r) × (r.def ≡ Expert f v ns)
    of None e is = absurd (cc)
    of (Some r) e is = let k = by r r.def refl is in (r, k.0, k.1, k.2, e, k.3)

-- what it is linked to from a place on is owed, and all of it was taken up
pub record IsListed (arena : Arena) (old now : Work) (p : Point) (from place : ℕ) : Type 0 where
  pub handed : IsHanded arena old now p (map main (drop from (kids_at old.experts p.node))) (map main (drop place (kids_at old.experts p.node)))
  pub taken : ExpertChanges old.experts now.experts p.node (Some (taken_up (expert_of old.experts p.node)))

module _ (arena : Arena) (old : Work) (p : Point) (is_main : p.part ≡ Main) (created : IsCreated old.experts p.node) (kept : IsKept arena old) where
  abbrev pub list : List NodeId
  list = kids_at old.experts p.node

  pub expert : (r : Row) × (f : FnRef) × (v : Value) × (ns : List NodeId) × (row_at arena p.node ≡ Some r) × (r.def ≡ Expert f v ns)
  expert = expert_row arena old.experts kept.experts p.node created

  abbrev pub r : Row
  r = expert.0

  pub row : row_at arena p.node ≡ Some r
  row = expert.4

  -- it has one point, and stands in no scope
  pub one : subject_of r.def ≡ None
  one = ap subject_of expert.5

  pub listed_ran : GateRan arena old p
  listed_ran = ran_free arena old p (r, row, kept.tops p.node r row (subst IsTop (sym expert.5) tt))

  pub listed_read : list ≡ kids_of (graph_at arena old) p.node r.def
  listed_read = sym (ap (kids_of (graph_at arena old) p.node) expert.5)

  alone : (a : Point) → (p ≡ a → ⊥) → p.node ≡ a.node → at old.rows a ≡ None
  alone a ne same = by a.part refl
    where
      by : (part : Part) → a.part ≡ part → at old.rows a ≡ None
      by Main e = absurd (ne (sym (main_of p is_main) ∙ (ap main same ∙ main_of a e)))
      by Change e = none_if (at old.rows a) (kept.rows a
          ∙ (ap (has_part (row_at arena a.node)) e
          ∙ (ap (λ (n : NodeId). has_part (row_at arena n) Change) (sym same)
          ∙ (ap (λ (x : Option Row). has_part x Change) row
          ∙ ap is_some one))))

  pub listed_first : (from : ℕ) (experts : List ExpertPlace) → ExpertChanges old.experts experts p.node (Some (taken_up (expert_of old.experts p.node)))
      → Needed old.graph p → IsListed arena old (record old { experts = experts }) p from from
  listed_first from experts taken need = record {
    handed = handed_up arena old p experts created taken alone (map main (drop from list)) need kept;
    taken = taken;
  }

  module _ (now : Work) (from place : ℕ) (so : IsListed arena old now p from place) where
    pub listed_kids : kids_at now.experts p.node ≡ list
    listed_kids = (read_taken_up old.experts now.experts p.node created so.taken).kids p.node

    -- the main of the node at the place
    module _ (q : Point) (read : List NodeId) (d : NodeId) (same : read ≡ kids_at now.experts p.node) (is : q ≡ main (get_or read place d))
        (below : place < length list) where
      abbrev kid : NodeId
      kid = get_or list place d

      q_is : q ≡ main kid
      q_is = is ∙ ap (λ (xs : List NodeId). main (get_or xs place d)) (same ∙ listed_kids)

      pub kid_target : IsTarget arena now q
      kid_target = subst (λ (x : Point). IsTarget arena now x) (sym q_is)
          (main_is_target arena now (main kid) so.handed.kept (every_among (Given arena.given) list kid (kept.listed p.node) (id_among list place d below)) refl)

      next : IsNext arena old now p r (map main (drop from list)) q (map main (drop (place + 1) list))
      next = next_kid arena old now p r (map main (drop from list)) list place d q listed_read q_is below so.handed

      module _ (new : Work) where
        pub listed_on : (on : Bool) → ConnectAnswers arena now new p q (Ok on) → IsTrue on → IsListed arena old new p from (place + 1)
        listed_on on a t = record {
          handed = kid_on arena p is_main r row one old now listed_ran (map main (drop (place + 1) list)) (map main (drop from list)) q next.among
              next.handed new a t;
          taken = subst (λ (x : List ExpertPlace). ExpertChanges old.experts x p.node (Some (taken_up (expert_of old.experts p.node)))) (sym a.experts) so.taken;
        }

        pub listed_gone : {A : Type 0} (x : A) (on : Bool) → ConnectAnswers arena now new p q (Ok on) → IsFalse on
            → WireAnswers arena old new (Some (hand p (map main (drop from list)))) (Ok x)
        listed_gone x on a off = kid_gone arena p is_main r row one old now listed_ran (map main (drop (place + 1) list)) (map main (drop from list)) q
            next.among next.handed new a x off

        pub listed_refused : {A : Type 0} (r' : Result A Refused) (e : Refused) → IsErrAnd r' (λ y. y ≡ e) → ConnectAnswers arena now new p q (Err e)
            → WireAnswers arena old new (Some (hand p (map main (drop from list)))) r'
        listed_refused r' e is a = kid_refused arena p is_main r row one old now listed_ran (map main (drop (place + 1) list)) (map main (drop from list))
            q next.among next.handed new r' e is a

    -- all is linked
    pub listed_last : {A : Type 0} (x : A) → stage_in (at old.rows p) ≡ Some code.Full → length list ≤ place
        → WireAnswers arena old now (Some (hand p (map main (drop from list)))) (Ok x)
    listed_last x full end = handed_last x arena old now p (map main (drop from list)) full
        (subst (λ (xs : List NodeId). IsHanded arena old now p (map main (drop from list)) (map main xs)) (drop_none list place end) so.handed)

-- a point of an expert that has a row is its main
pub expert_main : (arena : Arena) (work : Work) (p : Point) → IsKept arena work → IsCreated work.experts p.node → Holds work.rows p → p.part ≡ Main
expert_main arena work p kept created there = by p.part refl
  where
    expert : (r : Row) × (f : FnRef) × (v : Value) × (ns : List NodeId) × (row_at arena p.node ≡ Some r) × (r.def ≡ Expert f v ns)
    expert = expert_row arena work.experts kept.experts p.node created

    by : (part : Part) → p.part ≡ part → p.part ≡ Main
    by Main e = e
    by Change e = absurd (never_alone arena work p expert.0 kept there expert.4 e (ap subject_of expert.5))

-- what is fresh is behind what was taken up
pub fresh_behind : (experts : List ExpertPlace) (n : NodeId) (from : ℕ) → from ≡ length (taken_at experts n) → drop from (kids_at experts n) ≡ fresh_at experts n
fresh_behind experts n from is = ap (λ (i : ℕ). drop i (kids_at experts n)) is ∙ behind (taken_at experts n)
  where
    behind : (xs : List NodeId) → drop (length xs) (xs ++ fresh_at experts n) ≡ fresh_at experts n
    behind [] = refl
    behind (x ∷ xs) = behind xs
