-- The laws, from the lemmas.
use Rattle.std.proofs.Common.{◌≡◌, ℕ, Bool, List, true}
use Rattle.inc_value.specs.declared.function.FnRef.{FnRef}
use Rattle.inc_value.specs.declared.node.NodeId.{NodeId}
use Rattle.inc_value.specs.declared.node.Point.{Point}
use Rattle.inc_terms.specs.Term.{Functions}
use Rattle.inc_terms.specs.Within.{FunctionLaws, FunctionsWithin, Given, Fit}
use Rattle.inc_terms.specs.Depend.{Depends, main}
use Rattle.inc_terms.specs.Need.{Needed, Held, nodes_of}
use Rattle.inc_terms.specs.Laws.{EveryDepthAgrees, OneOutcome, RebuildKeeps, DeadWereInvalid, DependsGrows}
use Rattle.inc_terms.specs.Laws.{UnfoldsGives, LocalIsRight, KeepingNames, MetGrows, UnfoldsStays, PlanIsDepends}
use Rattle.inc_terms.specs.Laws.{LowIsExact}
use Rattle.inc_terms.proofs.Within.{functions_within, names_kept}
use Rattle.inc_terms.proofs.Evaluation.{at_depth, one_outcome}
use Rattle.inc_terms.proofs.Rebuild.{same_after, same_before, died_invalid}
use Rattle.inc_terms.proofs.Depending.{grows}
use Rattle.inc_terms.proofs.Unfolding.{unfolds_gives, gives_unfolds}
use Rattle.inc_terms.proofs.Local.{local_gives, main_sees, needed_more}
use Rattle.inc_terms.proofs.Finite.{all_end}
use Rattle.inc_terms.proofs.Meeting.{met_grows}
use Rattle.inc_terms.proofs.Staying.{unfolds_stay, apart_scope}
use Rattle.inc_terms.proofs.Plan.{plan_depends, depends_plan}
use Rattle.inc_terms.proofs.Full.{low_exact}

pub every_depth_agrees : EveryDepthAgrees
every_depth_agrees F G d e q o le h = at_depth F G d e q o le h

pub gives_one_outcome : OneOutcome
gives_one_outcome F G q o p g h = one_outcome F G q o p g h

module _ (F : Functions) (known : FnRef → Bool) (ids : FnRef → List NodeId) (count : ℕ) where
  given_within : FunctionLaws F known ids → FunctionsWithin F (Given count) (Fit count known ids)
  given_within laws = functions_within F known ids (Given count) laws

pub rebuild_keeps : RebuildKeeps
rebuild_keeps F known ids count G G' b now h n p o =
    let fine = given_within F known ids count h.laws in (
      same_after F (Given count) (Fit count known ids) fine G G' h.names b now h.due h.rebuilt n p o,
      same_before F (Given count) (Fit count known ids) fine G G' h.names b now h.due h.rebuilt n p o,
    )

pub dead_were_invalid : DeadWereInvalid
dead_were_invalid F known ids count G G' b now h n p i =
    let fine = given_within F known ids count h.laws in
    let d = died_invalid F (Given count) (Fit count known ids) fine G G' h.names b now h.due h.rebuilt n i in (d.0, d.1 p)

pub depends_grows : DependsGrows
depends_grows F known ids count G G' b now h died died' deaths p q given dep =
    let fine = given_within F known ids count h.laws in
    grows F (Given count) (Fit count known ids) fine G G' h.names b now h.due h.rebuilt died died' deaths p q given dep

pub unfolding_gives : UnfoldsGives
unfolding_gives F G S caps n t st unf o = (unfolds_gives F G S caps st n t unf o, gives_unfolds F G S caps st n t unf o)

pub local_is_right : LocalIsRight
local_is_right F G out died observed points scoped local no_cycle all n need =
    main_sees F G out n (local_gives F G out died observed scoped local (main n) need
    (all_end (Depends F G died) (Needed F G died observed) (λ p q a b. needed_more F G died observed p q a b) no_cycle points all (main n) need))

pub keeping_names : KeepingNames
keeping_names known ids count G keeping = names_kept (Given count) (Fit count known ids) G keeping

pub met_growing : MetGrows
met_growing F known ids count G G' b now h died died' deaths keeps observers before og hg p m =
    let fine = given_within F known ids count h.laws in
    met_grows F (Given count) (Fit count known ids) fine G G' h.names b now h.due h.rebuilt died died' deaths keeps
    (nodes_of observers) (Held before observers) og hg p m

pub unfolds_stays : UnfoldsStays
unfolds_stays F known ids count G G' b now h S apart captures n t given unf =
    unfolds_stay (Given count) (Fit count known ids) G G' h.names S
    (apart_scope (Given count) G G' h.names.live b h.rebuilt S apart) captures t n given unf

pub plan_is_depends : PlanIsDepends
plan_is_depends F G out died p q r row stands run = (plan_depends F G out died p q r row stands run, depends_plan F G out died p q r row stands run)

pub low_is_exact : LowIsExact
low_is_exact F G out height low scoped known p is = low_exact F G out scoped height (λ (q : Point). low q ≡ true) known p is
