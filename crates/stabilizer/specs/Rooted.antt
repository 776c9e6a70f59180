-- The right side of a bind is built, and its root kept.
use Rattle.std.specs.Prelude.{◌≡◌, ◌≤◌, ◌+◌, ◌-◌, List, None, Some}
use Rattle.inc_value.specs.declared.function.FnRef.{FnRef}
use Rattle.inc_value.specs.declared.node.NodeId.{NodeId}
use Rattle.inc_value.specs.declared.value.Value.{Value}
use Rattle.inc_value.specs.declared.function.FnKind.TheVariants.{Rhs}
use Rattle.inc_terms.specs.Depend.{change}
use Rattle.inc_terms.specs.Within.{KnownAs}
use Rattle.point_map.specs.Rows.{Rows, Changes, KeepsRows}
use Rattle.node_arena.specs.Arena.{row_at, IsLive}
use Rattle.node_arena.specs.Building.{building_in}
use Rattle.node_arena.specs.RightSide.{MayBuild, IsRoot, one_built}
use Rattle.node_arena.specs.declared.functions.Functions.{Ghosts}
use Rattle.wiring.specs.declared.refused.Refused.{Refused}
use Rattle.wiring.specs.declared.refused.Refused.TheVariants.{Memory}
use Rattle.stabilizer.specs.Building.{HasGrown, StopsBuilding}
use Rattle.stabilizer.specs.Dying.{IsBindNode, IsBindOf}
use Rattle.stabilizer.specs.Giving.{GivesLive}
use Rattle.stabilizer.specs.Kept.{PartsKept, KeepsMeaning}
use Rattle.stabilizer.specs.Weights.{SidesFit}
use Rattle.stabilizer.specs.declared.parts.Parts.{Parts}

-- the parts with these roots of binds
abbrev pub with_roots : Parts → Rows NodeId → Parts
with_roots parts roots = record parts { work = record parts.work { roots = roots } }

-- the right side of a value can be built for a bind: it lives, and its function, which is known, may build it from these captures
pub record MayBuildFor {K More : Type 0} (keeper : Ghosts K More) (fs : K) (parts : Parts) (b : NodeId) (f : FnRef) (captures : List NodeId) (left : Value)
    : Type 0 where
  pub kept : PartsKept parts
  pub live : IsLive parts.arena b
  pub bind : IsBindNode parts.arena b
  pub own : IsBindOf parts.arena b f
  pub sound : keeper.is_sound fs
  pub known : KnownAs (keeper.known fs) Rhs f
  pub ready : MayBuild (building_in b parts.arena) f.sig (keeper.right fs f) left captures
  pub fit : SidesFit (keeper.known fs) (keeper.right fs) parts.arena

module _ {K More : Type 0} (keeper : Ghosts K More) (fs fs' : K) where
  -- a right side was built, or couldn't be
  pub record WasBuilt (old new : Parts) (b : NodeId) : Type 0 where
    pub grew : HasGrown old new b
    pub kept : PartsKept new
    pub meaning : KeepsMeaning keeper fs fs'
    pub fit : SidesFit (keeper.known fs') (keeper.right fs') new.arena
    pub calls : keeper.calls fs' ≡ keeper.calls fs
    pub wants : keeper.wants fs' ≡ keeper.wants fs
    pub tally : keeper.tally fs' ≡ one_built (new.arena.given - old.arena.given) (keeper.tally fs)

  -- there was room for a root, the right side of the value was built, and the bind has its root
  pub record GetsRoot (old new : Parts) (b : NodeId) (f : FnRef) (captures : List NodeId) (left : Value) : Type 0 where
    pub roomy : Rows NodeId
    pub room : KeepsRows old.work.roots roomy
    pub grown : Parts
    pub built : WasBuilt (with_roots old roomy) grown b
    pub root : NodeId
    pub is_root : IsRoot (building_in b grown.arena) captures root ((keeper.right fs f).term left) f.sig.gives
    pub gives : GivesLive old.arena.given 0 grown.arena
    pub roots : Rows NodeId
    pub put : Changes grown.work.roots roots (change b) (Some root)
    pub rest : new ≡ with_roots grown roots

-- there was no memory for a root; or the right side couldn't be built, and no node is left of it
pub data GetsNoRoot {K More : Type 0} (keeper : Ghosts K More) (fs fs' : K) (old new : Parts) (b : NodeId) (f : FnRef) (e : Refused) : Type 0 where
  no_room : {roomy : Rows NodeId} → KeepsRows old.work.roots roomy → new ≡ with_roots old roomy → fs' ≡ fs → e ≡ Memory
      → GetsNoRoot keeper fs fs' old new b f e
  stopped : {roomy : Rows NodeId} → KeepsRows old.work.roots roomy → WasBuilt keeper fs fs' (with_roots old roomy) new b
      → ((n : NodeId) → old.arena.given ≤ n.gen_ → row_at new.arena n ≡ None) → StopsBuilding old.arena.given new.arena e
      → new.arena.given ≤ old.arena.given + (keeper.right fs f).size → GetsNoRoot keeper fs fs' old new b f e
