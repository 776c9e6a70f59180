-- The laws.
use Rattle.transfer.specs.Laws.{NamesAgree, PlacesAgree, NeededIsCovered, NeededHasNodes, RanIsWithinWork}
use Rattle.std.proofs.Common.{◌≡◌, Some, refl}
use Rattle.inc_value.specs.declared.node.NodeId.{NodeId}
use Rattle.inc_terms.specs.Depend.{main}
use Rattle.inc_terms.specs.Need.{Needed as GraphNeeded}
use Rattle.inc_terms.proofs.Local.{needed_more}
use Rattle.script_model.specs.Need.{Item, Named, Place, Needed}
use Rattle.transfer.specs.Items.{node_of}
use Rattle.transfer.proofs.Carriers.{place_agrees}
use Rattle.transfer.proofs.Having.{Has, needed_has_points}
use Rattle.transfer.proofs.Ghosts.{ghosts_covered}
use Rattle.transfer.proofs.Reaching.{needed_covered, needed_closed, met_closed}
use Rattle.transfer.proofs.Visiting.{ran_within_work}
use Rattle.transfer.proofs.Agreement.{name_agrees}

pub names_agree : NamesAgree
names_agree x fits k o gives = name_agrees x fits k o gives

pub needed_is_covered : NeededIsCovered
needed_is_covered x fits grabs observed are p need =
    needed_covered x fits grabs x.died (ghosts_covered x fits (Needed x.meanings x.state) (needed_closed x grabs))
    observed are p need

pub ran_is_within_work : RanIsWithinWork
ran_is_within_work x fits before grabs grabs' keeps ns ran calls distinct few =
    ran_within_work x fits before (met_closed x before grabs grabs' keeps) ns ran calls distinct few

pub places_agree : PlacesAgree
places_agree x fits owner path f n o is at stands gives = place_agrees x fits owner path f n o is at stands gives

pub needed_has_nodes : NeededHasNodes
needed_has_nodes x fits grabs observed have out exact i is =
    by_item i (needed_has_points x fits grabs x.died (λ n b e. e) out observed have exact i is)
  where
    by_item : (i : Item) → Has x fits grabs x.died out (λ p. GraphNeeded x.functions x.graph x.died observed p)
        (needed_more x.functions x.graph x.died observed) exact (λ n b e. e) i
        → (n : NodeId) × (node_of x i ≡ Some n) × GraphNeeded x.functions x.graph x.died observed (main n)
    by_item (Named k) h = (x.nodes k, refl, h)
    by_item (Place owner path) h = h.0
