-- Roots and links from needed readers, counted at each point, and a change of them under way.
use Rattle.std.specs.Prelude.{◌≡◌, ◌+◌, ◌-◌, ◌<◌, ◌≤◌, ℕ, Bool, true, false, not, ◌&&◌, ◌||◌, nat_lt, cond, List, [], ◌∷◌, ◌++◌, None, length, count_by, map, option_map, unwrap_or}
use Rattle.inc_value.specs.declared.node.Point.{Point}
use Rattle.inc_value.specs.Walk.{IsOnCycle}
use Rattle.point_map.specs.Rows.{Rows, at, Holds, same_point}
use Rattle.link_table.specs.declared.link.Link.{Link}
use Rattle.link_table.specs.Links.{Links, times, Reads, occurrences}
use Rattle.necessity.specs.Need.{Roots}
use Rattle.necessity.specs.declared.need.Need.{Need}

-- what is counted at a point: nothing where there is no row
abbrev pub need_at : Rows Need → Point → Need
need_at m p = unwrap_or (at m p) (record { roots = 0; by = 0 })

-- each point with how often it is a root
abbrev pub roots_of : Rows Need → Roots
roots_of m = record { counts = map (option_map (λ e. (e.0, e.1.roots))) m.places }

-- each point is a root as often as before
abbrev pub KeepsRootCounts : Rows Need → Rows Need → Type 0
KeepsRootCounts old new = (k : Point) → (need_at new k).roots ≡ (need_at old k).roots

-- a root, or read by a needed reader
abbrev pub is_above_zero : Need → Bool
is_above_zero n = nat_lt 0 n.roots || nat_lt 0 n.by

-- the counts have the point as needed
abbrev pub needed_in : Rows Need → Point → Bool
needed_in m p = is_above_zero (need_at m p)

-- one of them holds and the other doesn't
abbrev pub differ : Bool → Bool → Bool
differ true b = not b
differ false b = b

-- the point is among those that wait
abbrev pub waits : List Point → Point → Bool
waits waiting p = nat_lt 0 (occurrences waiting p)

-- the links of the point are counted at their kids: those of a point that waits as they were before it turned
abbrev pub is_counted : Rows Need → List Point → Point → Bool
is_counted m waiting r = differ (needed_in m r) (waits waiting r)

-- the link leads to k from a reader of this kind
abbrev pub leads_from : (Point → Bool) → Point → Link → Bool
leads_from kind k e = kind e.reader && same_point e.kid k

-- how many links lead to k from readers of this kind
abbrev pub links_from : (Point → Bool) → Links → Point → ℕ
links_from kind l k = count_by (leads_from kind k) l.all

-- how many links aren't yet counted as they are to be once all has turned
abbrev pub behind : Bool → Links → Rows Need → List Point → ℕ
behind turned l m waiting = count_by (λ e. differ (is_counted m waiting e.reader) turned) l.all

-- both ends of each link have rows
abbrev pub EndsHeld : Links → Rows Need → Type 0
EndsHeld l m = (a b : Point) → Reads l a b → Holds m a × Holds m b

-- a count, the links that are due at it, and the links that it is to have: those that are due come on, or off
abbrev pub Balances : Bool → ℕ → ℕ → ℕ → Type 0
Balances true by due links = by + due ≡ links
Balances false by due links = by ≡ links + due

-- the kid of a link that comes or goes is due where its reader is needed
abbrev pub due_where : Bool → Point → List Point
due_where true q = q ∷ []
due_where false q = []

-- points are turning needed, or unneeded: those that wait have turned, and the kids that are due are yet to be counted
pub record IsUnderWay (turned : Bool) (l : Links) (m : Rows Need) (waiting due : List Point) : Type 0 where
  pub counts : (k : Point) → Balances turned (need_at m k).by (occurrences due k) (links_from (is_counted m waiting) l k)
  pub turned_so : (r : Point) → waits waiting r ≡ true → needed_in m r ≡ turned
  pub once : (r : Point) → occurrences waiting r ≤ 1
  pub ends : EndsHeld l m
  pub due_held : (k : Point) → 0 < occurrences due k → Holds m k

-- every count is that of the links from needed readers
pub record IsAtRest (l : Links) (m : Rows Need) : Type 0 where
  pub counts : (k : Point) → (need_at m k).by ≡ links_from (needed_in m) l k
  pub ends : EndsHeld l m

-- p is no root and has no links
pub record IsIdle (l : Links) (m : Rows Need) (p : Point) : Type 0 where
  pub no_root : (need_at m p).roots ≡ 0
  pub no_kids : (k : Point) → times l p k ≡ 0
  pub no_readers : (k : Point) → times l k p ≡ 0

-- a point without roots and links has no row
abbrev pub NoIdleRow : Links → Rows Need → Type 0
NoIdleRow l m = (p : Point) → IsIdle l m p → at m p ≡ None

-- no point has a row that had none
abbrev pub NoNewRows : Rows Need → Rows Need → Type 0
NoNewRows old new = (k : Point) → Holds new k → Holds old k

-- the counts are right, no link leads back, points that turn have room to wait, and rows stand for roots and links alone
pub record AreSoundNeeds (l : Links) (m : Rows Need) (attached : ℕ) (waiting : List Point) (room : ℕ) : Type 0 where
  pub at_rest : IsAtRest l m
  pub acyclic : (a : Point) → IsOnCycle (Reads l) a → ⊥
  pub none_wait : waiting ≡ []
  pub all : attached ≡ length l.all
  pub fit : attached ≤ room
  pub no_idle_row : NoIdleRow l m

-- one link more or fewer from a needed reader
abbrev pub recounted : Bool → Need → Need
recounted true n = record { roots = n.roots; by = n.by + 1 }
recounted false n = record { roots = n.roots; by = n.by - 1 }

-- a point that was in one way and is in the other waits
abbrev pub waiting_after : Bool → Bool → List Point → Point → List Point
waiting_after was is waiting p = cond (differ was is) (waiting ++ p ∷ []) waiting
