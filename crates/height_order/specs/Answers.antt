-- What a call that asks for one link more answers, and what it leaves.
use Rattle.std.specs.Global.{Vec}
use Rattle.std.specs.Prelude.{◌≡◌, ◌≢◌, ◌⊎◌, ◌<◌, ℕ, List, length, Option, IfSome, IfNone, Result, IfOk, OnOk, OnErr, IfErr}
use Rattle.inc_value.specs.declared.node.Point.{Point}
use Rattle.point_map.specs.Rows.{Rows, Holds, KeepsRows}
use Rattle.link_table.specs.Links.{Links, Reads, KeepsLinks, OneLinkMore}
use Rattle.height_order.specs.declared.heights.LinkFault.{LinkFault}
use Rattle.height_order.specs.declared.lifts.Lift.{Lift}
use Rattle.height_order.specs.Chains.{ReadsWith, IsChain, IsPath, Leads, HasChain, NoRepeats}
use Rattle.height_order.specs.Levels.{Web, level, Rises, AllLow, AreSoundHeights, KeepsPoints, IsBelow, IsExactBelow, Tells}
use Rattle.height_order.specs.Faults.{IfPath, IfOver, UnlessOver}

-- x stands below q, or below a point that leads to p
pub record IsNear (links : Links) (p q x : Point) : Type 0 where
  pub top : Point
  pub above : (top ≡ q) ⊎ Leads (Reads links) top p
  pub leads : Leads (Reads links) top x

-- `p` reads `q` once more, or the fault tells why it doesn't. The points of `moved` were told before and after.
pub record IsLinkAnswer {A : Type 0} (old new : Web) (p q : Point) (before after : List Point) (result : Result A LinkFault) : Type 0 where
  -- the link is made where no fault is told, and a refusal leaves the links
  pub linked : OnOk result (OneLinkMore old.links new.links p q)
  pub err : OnErr result (KeepsLinks old.links new.links)
  -- the path that is told leads from the kid to the reader, over each point once, and a link that was made closes none
  pub path : IfErr result (λ e. IfPath (λ list. IsPath (Reads old.links) list q p) e)
  pub path_once : IfErr result (λ e. IfPath NoRepeats e)
  pub no_path : OnOk result (Leads (Reads old.links) q p → ⊥)
  -- the chain that is told would have 130 points with the link, where there is no path
  pub over : IfErr result (λ e. IfOver (λ list. IsChain (ReadsWith old.links p q) list) e)
  pub over_length : IfErr result (λ e. IfOver (λ list. length list ≡ 130) e)
  pub over_no_path : IfErr result (λ e. IfOver (λ _. Leads (Reads old.links) q p → ⊥) e)
  -- the two ends and all that they lead to are levelled before, and nothing else is
  pub over_levelled : IfErr result (λ e. IfOver (λ _. IsExactBelow new.heights new.links p q) e)
  pub over_rest : IfErr result (λ e. IfOver (λ _. (x : Point) → level new.heights x ≢ level old.heights x → IsBelow new.links p q x) e)
  -- a link that was made makes no chain so long
  pub no_over : OnOk result (HasChain (ReadsWith old.links p q) 130 → ⊥)
  -- heights stay where another fault is told, where `p` is higher than `q` already, and of all points that aren't near
  pub kept : IfErr result (λ e. UnlessOver (KeepsRows old.heights new.heights) e)
  pub still : level old.heights q < level old.heights p → KeepsRows old.heights new.heights
  pub near : (x : Point) → level new.heights x ≢ level old.heights x → IsNear old.links p q x
  -- whatever is answered, heights of the same points rise along all links to at most 128, and those that changed are told
  pub rises : Rises (Reads new.links) (level new.heights)
  pub low : AllLow (level new.heights)
  pub points : KeepsPoints old.heights new.heights
  pub moved : Tells (level old.heights) (level new.heights) before after

-- Where points that are to be lifted are levelled over all links: that they fit, or a chain that is too long. The points of `moved` were told
-- before and after.
pub record IsFitted {E : Type 0} (old new : Rows ℕ) (links : Links) (lifts : Rows Lift) (before after : List Point) (result : Result (Option (Vec Point)) E) : Type 0 where
  -- heights that fit rise along all links to at most 128
  pub sound : IfOk result (λ o. IfNone o (AreSoundHeights new links))
  -- the chain that is told has 130 points
  pub chain : IfOk result (λ o. IfSome o (λ list. IsChain (Reads links) list.items))
  pub chain_length : IfOk result (λ o. IfSome o (λ list. length list.items ≡ 130))
  -- nothing changes where a chain is told or there is no memory
  pub kept : IfOk result (λ o. IfSome o (λ _. (new ≡ old) × (after ≡ before)))
  pub err : OnErr result ((new ≡ old) × (after ≡ before))
  -- the same points are there, and those whose height changed are told; a lifted point leads to each
  pub points : KeepsPoints old new
  pub near : (x : Point) → level new x ≢ level old x → (top : Point) × Holds lifts top × Leads (Reads links) top x
  pub moved : Tells (level old) (level new) before after

-- Where p and q are levelled, and all that they lead to. The points of `moved` were told before and after.
pub record AreEndsLevelled {A E : Type 0} (old new : Rows ℕ) (links : Links) (p q : Point) (before after : List Point) (result : Result A E) : Type 0 where
  pub sound : AreSoundHeights new links
  pub exact : OnOk result (IsExactBelow new links p q)
  -- nothing changes where there is no memory
  pub err : OnErr result ((new ≡ old) × (after ≡ before))
  -- the same points are there, and those whose height changed are told; p or q leads to each
  pub points : KeepsPoints old new
  pub below : (x : Point) → level new x ≢ level old x → IsBelow links p q x
  pub moved : Tells (level old) (level new) before after
