-- A graph in which freezes got their values, beside the one in which they still follow their children: what nodes give in this they give in that, and
-- what is needed in that is needed in this.
use Rattle.std.proofs.Common.{◌≡◌, ◌⊎◌, ◌↔◌, inl, inr, ℕ, zero, suc, List, map, Option, None, Some, refl, sym, ap, subst, ◌∙◌}
use Rattle.inc_value.specs.Choice.{Among, Reaches, here, step, and_then}
use Rattle.inc_value.specs.declared.function.FnRef.{FnRef}
use Rattle.inc_value.specs.declared.node.NodeId.{NodeId}
use Rattle.inc_value.specs.declared.node.Part.{Part}
use Rattle.inc_value.specs.declared.node.Part.TheVariants.{Change, Main}
use Rattle.inc_value.specs.declared.node.Point.{Point}
use Rattle.inc_value.specs.declared.outcome.Outcome.{Outcome}
use Rattle.inc_value.specs.declared.outcome.Outcome.TheVariants.{Val, Invalid}
use Rattle.inc_value.specs.declared.value.Value.{Value}
use Rattle.inc_terms.specs.Depend.{Depends, gate, ghost, fixed, right, none_died, main, change, fixed_reads, kids_of, main_reads, rights_of, subject_of, at_most_one, unfrozen}
use Rattle.inc_terms.specs.Evaluate.{Query, Of, Around, Gathered, Unknown, SomeInvalid, Values, Gives, NodeGives, Stands, answer, joined, gathered, given, folded, with_value, chosen, branch, named, as_built, left_holds, bind_holds, scope_level, level, node_level}
use Rattle.inc_terms.specs.Graph as graph
use Rattle.inc_terms.specs.Graph.{Graph, Row, Built, Def, present, present_def}
use Rattle.inc_terms.specs.Local.{Exact, IsBuilt, IsRooted, PartExact}
use Rattle.inc_terms.specs.Need.{IsRoot, Needed}
use Rattle.inc_terms.specs.Term.{Term, Terms, Const, Ref, Cap, Map, Fold, If, Join, Bind, At, Steps, Now, End, More, Functions, put}
use Rattle.inc_terms.proofs.Crossing.{same_choice}
use Rattle.inc_terms.proofs.Evaluation.{Under, GathersUnder, under_refl, one_outcome}
use Rattle.inc_terms.proofs.Local.{needed_more}
use Rattle.inc_terms.proofs.Staying.{unfolds_rows}
use Rattle.stabilize_round.specs.Ended.{Fires}

-- ---- answers that stay

joined_under : (a b : Option Outcome) (g h : Gathered) → Under a b → GathersUnder g h → GathersUnder (joined a g) (joined b h)
joined_under None b g h p q = tt
joined_under (Some Invalid) b Unknown h p q = tt
joined_under (Some Invalid) b SomeInvalid h p q = rw (p, q) refl
joined_under (Some Invalid) b (Values vs) h p q = rw (p, q) refl
joined_under (Some (Val v)) b Unknown h p q = tt
joined_under (Some (Val v)) b SomeInvalid h p q = rw (p, q) refl
joined_under (Some (Val v)) b (Values vs) h p q = rw (p, q) refl

given_under : (f : List Value → Value) (g h : Gathered) → GathersUnder g h → Under (given f g) (given f h)
given_under f Unknown h q = tt
given_under f SomeInvalid h q = rw q refl
given_under f (Values vs) h q = rw q refl

with_under : (a b : Option Outcome) (next next' : Value → Option Outcome) → Under a b → ((v : Value) → Under (next v) (next' v))
    → Under (with_value a next) (with_value b next')
with_under None b next next' p q = tt
with_under (Some Invalid) b next next' p q = rw p refl
with_under (Some (Val v)) b next next' p q = rw p (q v)

then_under : (a b : Option Outcome) (next : Outcome → Option Outcome) → Under a b → Under (and_then a next) (and_then b next)
then_under None b next p = tt
then_under (Some o) b next p = rw p (under_refl (next o))

-- where anything is answered, a constant is
constant_given : (F : Functions) (G G' : Graph) (d : ℕ) (q : Query) (v : Value) (o : Outcome) → answer F G d q ≡ Some o
    → answer F G' d (Of (Const v)) ≡ Some (Val v)
unfolding answer
constant_given F G G' zero q v o is = absurd (cc)
constant_given F G G' (suc d) q v o is = refl

-- what binds are built of hangs on rows alone
pub same_rooted : (F : Functions) (G G' : Graph) → ((n : NodeId) → G'.row n ≡ G.row n) → (n : NodeId) (f : FnRef) (captures : List NodeId) (w : Built)
    → IsRooted F G n f captures w → IsRooted F G' n f captures w
same_rooted F G G' same n f captures w h = record {
  unfolds = λ v is. let x = h.unfolds v is in (x.0, x.1, unfolds_rows G G' same (Some n) captures (F.term f v) x.0 x.2);
  rootless = h.rootless;
}

-- freezes that keep values in the graph kept them, or fire
abbrev pub Froze : Functions → Graph → (NodeId → Option Value) → Type 0
Froze F A frozen =
    (n : NodeId) (v : Value) → (A.frozen n ≡ Some v) ↔ ((frozen n ≡ Some v) ⊎ Fires F (record A { frozen = frozen }) n v)

module _ (F : Functions) (A : Graph) (frozen : NodeId → Option Value) (froze : Froze F A frozen) where
  abbrev L : Graph
  L = record A { frozen = frozen }

  -- what keeps nothing kept nothing
  kept_none : (n : NodeId) → A.frozen n ≡ None → frozen n ≡ None
  kept_none n none = go (frozen n) refl
    where
      go : (x : Option Value) → frozen n ≡ x → frozen n ≡ None
      go None is = is
      go (Some v) is = absurd (let kept = (froze n v).1 (inl is) in let clash : None ≡ Some v = sym none ∙ kept in cc)

  module _ (d : ℕ) (part : (q : Query) → Under (answer F L d q) (answer F A d q)) where
    abbrev r : Query → Option Outcome
    r q = answer F L d q

    abbrev r' : Query → Option Outcome
    r' q = answer F A d q

    gathered_under : (ts : Terms) → GathersUnder (gathered r ts) (gathered r' ts)
    gathered_under End = refl
    gathered_under (More t rest) = joined_under (r (Of t)) (r' (Of t)) (gathered r rest) (gathered r' rest) (part (Of t)) (gathered_under rest)

    chosen_under : (t : Option Term) → Under (chosen r t) (chosen r' t)
    chosen_under None = refl
    chosen_under (Some t) = part (Of t)

    left_under : (built : Option Built) (def : Def) → Under (left_holds r built def) (left_holds r' built def)
    left_under built (graph.Bind l f caps) = then_under (r (Of (Ref l))) (r' (Of (Ref l))) (as_built built) (part (Of (Ref l)))
    left_under built _ = refl

    bind_under : (built : Option Built) (row : Option Row) → Under (bind_holds r built row) (bind_holds r' built row)
    bind_under built None = refl
    bind_under built (Some row) =
        with_under (r (Around row.scope)) (r' (Around row.scope)) (λ v. left_holds r built row.def) (λ v. left_holds r' built row.def)
        (part (Around row.scope)) (λ v. left_under built row.def)

    scope_under : (s : Option NodeId) → Under (scope_level r L s) (scope_level r' A s)
    scope_under None = refl
    scope_under (Some b) = bind_under (A.built b) (A.row b)

    -- a freeze that fires gave the value that it keeps
    fired_under : (n kid : NodeId) (v : Value) → NodeGives F L kid (Val v) → Under (r (Of (Ref kid))) (r' (Of (Const v)))
    fired_under n kid v gives = go (r (Of (Ref kid))) refl
      where
        go : (x : Option Outcome) → r (Of (Ref kid)) ≡ x → Under x (r' (Of (Const v)))
        go None is = tt
        go (Some o) is =
            let one : o ≡ Val v = one_outcome F L (Of (Ref kid)) o (Val v) (d, is) gives in
            constant_given F L A d (Of (Ref kid)) v o is ∙ ap (λ (p : Outcome). Some p) (sym one)

    freeze_under : (n : NodeId) (row : Row) (kid : NodeId) (f : FnRef) → A.row n ≡ Some row → row.def ≡ graph.Freeze kid f
        → Under (r (Of (graph.frozen_or kid (frozen n)))) (r' (Of (graph.frozen_or kid (A.frozen n))))
    freeze_under n row kid f is def = go (A.frozen n) refl
      where
        fires : (v : Value) → Fires F L n v → Under (r (Of (graph.frozen_or kid (frozen n)))) (r' (Of (Const v)))
        fires v h =
            let rows : h.row ≡ row = (let e : Some h.row ≡ Some row = sym h.is_row ∙ is in cc) in
            let defs : graph.Freeze h.kid h.predicate ≡ graph.Freeze kid f = sym h.is_freeze ∙ (ap (λ (q : Row). q.def) rows ∙ def) in
            let kids : h.kid ≡ kid = cc in
            let gives : NodeGives F L kid (Val v) = subst (λ (m : NodeId). NodeGives F L m (Val v)) kids h.gives in
            subst (λ (x : Option Value). Under (r (Of (graph.frozen_or kid x))) (r' (Of (Const v)))) (sym h.keeps_none) (fired_under n kid v gives)

        go : (x : Option Value) → A.frozen n ≡ x → Under (r (Of (graph.frozen_or kid (frozen n)))) (r' (Of (graph.frozen_or kid x)))
        go None e = subst (λ (x : Option Value). Under (r (Of (graph.frozen_or kid x))) (r' (Of (Ref kid)))) (sym (kept_none n e)) (part (Of (Ref kid)))
        go (Some v) e = elim ((froze n v).0 e) [
          | inl kept ↦ subst (λ (x : Option Value). Under (r (Of (graph.frozen_or kid x))) (r' (Of (Const v)))) (sym kept) (part (Of (Const v)))
          | inr h ↦ fires v h
        ]

    present_under : (n : NodeId) (row : Row) → A.row n ≡ Some row → (def : Def) → row.def ≡ def
        → Under (r (Of (present_def L n def))) (r' (Of (present_def A n def)))
    present_under n row is (graph.Freeze kid f) def = freeze_under n row kid f is def
    present_under n row is (graph.Const v) def = part (Of (Const v))
    present_under n row is (graph.Var v) def = part (Of (Const v))
    present_under n row is (graph.Map f kids) def = part (Of (present_def A n (graph.Map f kids)))
    present_under n row is (graph.Fold f v kids) def = part (Of (present_def A n (graph.Fold f v kids)))
    present_under n row is (graph.If t a b) def = part (Of (present_def A n (graph.If t a b)))
    present_under n row is (graph.Join k) def = part (Of (present_def A n (graph.Join k)))
    present_under n row is (graph.Bind l f caps) def = part (Of (present_def A n (graph.Bind l f caps)))
    present_under n row is (graph.At t) def = part (Of (At t))
    present_under n row is (graph.Steps v steps) def = part (Of (Steps v steps))
    present_under n row is graph.Now def = part (Of Now)
    present_under n row is (graph.Every base span) def = part (Of (present_def A n (graph.Every base span)))
    present_under n row is (graph.Expert f v kids) def = part (Of (present_def A n (graph.Expert f v kids)))

    node_under : (n : NodeId) (row : Option Row) → A.row n ≡ row → Under (node_level r L n row) (node_level r' A n row)
    node_under n None is = refl
    node_under n (Some row) is =
        with_under (r (Around row.scope)) (r' (Around row.scope)) (λ v. r (Of (present L n row))) (λ v. r' (Of (present A n row)))
        (part (Around row.scope)) (λ v. present_under n row is row.def refl)

    level_under : (q : Query) → Under (level F L r q) (level F A r' q)
    level_under (Around s) = scope_under s
    level_under (Of (Const v)) = refl
    level_under (Of (Ref n)) = node_under n (A.row n) refl
    level_under (Of (Cap i)) = tt
    level_under (Of (Map f ts)) = given_under (F.value f) (gathered r ts) (gathered r' ts) (gathered_under ts)
    level_under (Of (Fold f v ts)) = given_under (folded (F.value f) v) (gathered r ts) (gathered r' ts) (gathered_under ts)
    level_under (Of (If t a b)) =
        with_under (r (Of t)) (r' (Of t)) (λ (v : Value). chosen r (branch a b v)) (λ (v : Value). chosen r' (branch a b v)) (part (Of t))
        (λ v. chosen_under (branch a b v))
    level_under (Of (Join t)) =
        with_under (r (Of t)) (r' (Of t)) (λ (v : Value). chosen r (named v)) (λ (v : Value). chosen r' (named v)) (part (Of t))
        (λ v. chosen_under (named v))
    level_under (Of (Bind l f caps)) =
        with_under (r (Of l)) (r' (Of l)) (λ (v : Value). chosen r (Some (put caps (F.term f v)))) (λ (v : Value). chosen r' (Some (put caps (F.term f v))))
        (part (Of l)) (λ v. chosen_under (Some (put caps (F.term f v))))
    level_under (Of (At t)) = refl
    level_under (Of (Steps v steps)) = refl
    level_under (Of Now) = refl

  answers_under : (d : ℕ) (q : Query) → Under (answer F L d q) (answer F A d q)
  unfolding answer
  answers_under zero q = tt
  answers_under (suc d) q = level_under d (answers_under d) q

  -- what is given is given still
  pub gives_after : (q : Query) (o : Outcome) → Gives F L q o → Gives F A q o
  gives_after q o (d, is) = (d, rw is at (answers_under d q))

  -- ---- what is needed

  built_after : (n : NodeId) (o : Outcome) (def : Def) → IsBuilt F L n def o → IsBuilt F A n def o
  built_after n o (graph.Bind l f captures) h = (h.0, h.1, h.2, same_rooted F L A (λ m. refl) n f captures h.0 h.3)
  built_after n o def h = tt

  -- a main reads no more
  reads_before : (n : NodeId) (def : Def) (part : Part) (q : Point) → Among q (fixed_reads A n def part) → Among q (fixed_reads L n def part)
  reads_before n def Change q among = among
  reads_before n (graph.Freeze kid f) Main q among = go (A.frozen n) refl among
    where
      go : (x : Option Value) → A.frozen n ≡ x → Among q (map main (unfrozen kid x)) → Among q (map main (unfrozen kid (frozen n)))
      go None is among = subst (λ (x : Option Value). Among q (map main (unfrozen kid x))) (sym (kept_none n is)) among
      go (Some v) is none = absurd none
  reads_before n (graph.Const v) Main q among = among
  reads_before n (graph.Var v) Main q among = among
  reads_before n (graph.Map f kids) Main q among = among
  reads_before n (graph.Fold f v kids) Main q among = among
  reads_before n (graph.If t a b) Main q among = among
  reads_before n (graph.Join k) Main q among = among
  reads_before n (graph.Bind l f caps) Main q among = among
  reads_before n (graph.At t) Main q among = among
  reads_before n (graph.Steps v steps) Main q among = among
  reads_before n graph.Now Main q among = among
  reads_before n (graph.Every base span) Main q among = among
  reads_before n (graph.Expert f v kids) Main q among = among

  -- a main with a subject reads its own change
  reads_change : (n s : NodeId) (def : Def) → subject_of def ≡ Some s → Among (change n) (fixed_reads L n def Main)
  reads_change n s def is = subst (λ (x : Option NodeId). Among (change n) (main_reads n x (kids_of L n def))) (sym is) (inl refl)

  module _ (died : NodeId → Option NodeId) (observed : List NodeId) (out : Point → Option Outcome)
      (exact : (p : Point) → Needed F L died observed p → Exact F L out p) where
    depends_before : (p q : Point) → Needed F L died observed p → Depends F A none_died p q → Depends F L died p q
    depends_before p q need (gate row scope to) = gate row scope to
    depends_before p q need (ghost row none to) = absurd (cc)
    depends_before p q need (fixed {r} row stands among) = fixed row (exact p need r row).0 (reads_before p.node r.def p.part q among)
    depends_before p q need (right {r} {s} {o} {m} row stands is_main subject gives among to) =
        let here : Stands F L r.scope = (exact p need r row).0 in
        let own : Among (change p.node) (fixed_reads L p.node r.def p.part) =
        subst (λ (z : Part). Among (change p.node) (fixed_reads L p.node r.def z)) (sym is_main) (reads_change p.node s r.def subject) in
        let need_change : Needed F L died observed (change p.node) = needed_more F L died observed p (change p.node) need (fixed row here own) in
        let run = (exact (change p.node) need_change r row).1 s subject in
        let one : run.0 ≡ o = one_outcome F A (Of (Ref s)) run.0 o (gives_after (Of (Ref s)) run.0 run.2) gives in
        let same : rights_of A p.node r.def o ≡ rights_of L p.node r.def o = ap at_most_one (same_choice L A p.node r.def o refl) in
        right row here is_main subject (subst (λ (x : Outcome). NodeGives F L s x) one run.2) (subst (λ (ms : List NodeId). Among m ms) same among) to

    reach_before : {a b : Point} → Needed F L died observed a → Reaches (Depends F A none_died) a b → Needed F L died observed b
    reach_before need here = need
    reach_before {a} need (step {b = c} dep on) =
        reach_before (needed_more F L died observed a c need (depends_before a c need dep)) on

    -- what is needed was needed
    pub needed_before : (p : Point) → Needed F A none_died observed p → Needed F L died observed p
    needed_before p (n, root, way) = reach_before (n, root_before root, here) way
      where
        root_before : IsRoot A observed n → IsRoot L observed n
        root_before (inl among) = inl among
        root_before (inr loose) = inr (record {
          row = loose.row;
          kid = loose.kid;
          predicate = loose.predicate;
          is_row = loose.is_row;
          is_freeze = loose.is_freeze;
          keeps_none = kept_none n loose.keeps_none;
        })

    part_after : (n : NodeId) (def : Def) (part : Part) → PartExact F L out n def part → PartExact F A out n def part
    part_after n def Main h = (h.0, h.1, gives_after (Of (Ref n)) h.0 h.2)
    part_after n def Change h = λ s is. let x = h s is in (x.0, x.1, gives_after (Of (Ref s)) x.0 x.2, built_after n x.0 def x.3)

    -- and is right
    pub exact_after : (p : Point) → Needed F A none_died observed p → Exact F A out p
    exact_after p need r row =
        let e = exact p (needed_before p need) r row in
        (gives_after (Around r.scope) _ e.0, part_after p.node r.def p.part e.1)
