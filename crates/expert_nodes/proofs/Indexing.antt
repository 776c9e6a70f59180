-- An index of links stays right where a link is put on or taken off.
use Rattle.std.proofs.Common.{◌≡◌, ◌≢◌, ◌∙◌, ◌⊎◌, ℕ, ◌<◌, true, List, [], ◌∷◌, ◌++◌, length, map, refl, ap, sym, subst, inl, inr, slice_set, Option, Some, None}
use Rattle.inc_value.specs.Choice.{Among}
use Rattle.inc_value.specs.declared.node.NodeId.{NodeId}
use Rattle.inc_value.specs.declared.node.Point.{Point}
use Rattle.index_lists.specs.Lists.{Lists, Among as AmongPlaces, IsThere, NoRepeats, list_at, places, without}
use Rattle.point_map.specs.Rows.{Rows, Changes, at}
use Rattle.expert_nodes.specs.declared.links.Link.{Link}
use Rattle.expert_nodes.specs.Links.{IsIndexed, Queue, all_of, fresh_of, items_in, key_of, kids_of, places_of, queue_at, taken_of}
use Rattle.expert_nodes.proofs.Places.{IsOffBefore, IsOffBehind, halves, linked, node_cases, not_linked, once_push, once_without, other_push, own_push, places_among, taken_off}
use Rattle.expert_nodes.proofs.Halves.{all_off, all_put, marked_off, marked_put, there_among}

node_of : Point → NodeId
node_of p = record { slot = p.node.gen_; gen_ = p.node.slot }

same_key : (n m : NodeId) → key_of n ≡ key_of m → n ≡ m
unfolding node_of
same_key n m e = ap node_of e

-- ---- the index alone

module _ (old new : Rows Queue) (n : NodeId) (p : Point) (row : Option Queue) (is : p ≡ key_of n) (changes : Changes old new p row) where
  changed : Changes old new (key_of n) row
  changed = subst (λ q. Changes old new q row) is changes

  pub own_queue : queue_at new n ≡ items_in row
  own_queue = ap items_in changed.changed

  pub other_queues : (m : NodeId) → m ≢ n → queue_at new m ≡ queue_at old m
  other_queues m d = ap items_in (changed.others (key_of m) (λ e. d (same_key m n e)))

  -- the places of each node stay where a row is put in place of one with the same places
  pub same_queues : items_in row ≡ items_in (at old p) → (m : NodeId) → queue_at new m ≡ queue_at old m
  same_queues same m = elim (node_cases m n) [
    | inl e ↦ ap (queue_at new) e ∙ own_queue ∙ same ∙ ap (λ q. items_in (at old q)) is ∙ sym (ap (queue_at old) e)
    | inr d ↦ other_queues m d
  ]

-- the places of a node that has a row
pub queue_is : (index : Rows Queue) (n : NodeId) (p : Point) (q : Queue) → p ≡ key_of n → Some q ≡ at index p → queue_at index n ≡ q.items
queue_is index n p q is there = ap (λ x. items_in (at index x)) (sym is) ∙ sym (ap items_in there)

pub none_is : (index : Rows Queue) (n : NodeId) (p : Point) → p ≡ key_of n → None ≡ at index p → queue_at index n ≡ []
none_is index n p is there = ap (λ x. items_in (at index x)) (sym is) ∙ sym (ap items_in there)

-- ---- the index of links

pub indexed_put : (links new : Lists Link) (index next : Rows Queue) (p : ℕ) (n : NodeId) → IsIndexed links index → 1 < length links.lists
    → (IsThere links p → ⊥) → new.lists ≡ slice_set links.lists 1 (list_at links 1 ++ (p, record { node = n; fresh = true }) ∷ [])
    → queue_at next n ≡ queue_at index n ++ p ∷ [] → ((m : NodeId) → m ≢ n → queue_at next m ≡ queue_at index m) → IsIndexed new next
indexed_put links new index next p n was wide vacant lists own others =
    let all = all_put links new p n was.marked wide lists in
    record {
      marked = marked_put links new p n was.marked wide lists;
      once = subst (λ es. NoRepeats (places es)) (sym all) (once_push p n (all_of links) was.once (λ a. vacant (there_among links p a)));
      queues = λ m. elim (node_cases m n) [
        | inl is ↦ ap (queue_at next) is ∙ own ∙ ap (λ l. l ++ p ∷ []) (was.queues n) ∙ sym (own_push p n (all_of links)) ∙ sym (ap (places_of n) all)
            ∙ sym (ap (λ x. places_of x (all_of new)) is)
        | inr d ↦ others m d ∙ was.queues m ∙ sym (other_push p n m (all_of links) d) ∙ sym (ap (places_of m) all)
      ];
    }

pub indexed_off : (links new : Lists Link) (index next : Rows Queue) (p : ℕ) (n : NodeId) → IsIndexed links index
    → queue_at index n ≡ p ∷ queue_at next n → ((m : NodeId) → m ≢ n → queue_at next m ≡ queue_at index m)
    → new.lists ≡ map (without p) links.lists → IsIndexed new next
indexed_off links new index next p n was own others lists =
    let es = all_of links in
    let off = taken_off n p (queue_at next n) es was.once (sym (was.queues n) ∙ own) in
    let all = all_off links new p was.marked lists in
    record {
      marked = marked_off links new p was.marked lists;
      once = subst (λ xs. NoRepeats (places xs)) (sym all) (once_without p es was.once);
      queues = λ m. elim (node_cases m n) [
        | inl is ↦ ap (queue_at next) is ∙ sym off.own ∙ sym (ap (places_of n) all) ∙ sym (ap (λ x. places_of x (all_of new)) is)
        | inr d ↦ others m d ∙ was.queues m ∙ sym (off.others m d) ∙ sym (ap (places_of m) all)
      ];
    }

-- where the first link of a node stands
pub stands_in : (links : Lists Link) (index : Rows Queue) (p : ℕ) (n : NodeId) (rest : List ℕ) → IsIndexed links index → queue_at index n ≡ p ∷ rest
    → IsOffBefore n p (taken_of links) (fresh_of links) ⊎ IsOffBehind n p (taken_of links) (fresh_of links)
stands_in links index p n rest was own = halves n p rest (taken_of links) (fresh_of links) was.once (sym (was.queues n) ∙ own)

-- the first link of a node has a row
pub there_first : (links : Lists Link) (index : Rows Queue) (p : ℕ) (n : NodeId) (rest : List ℕ) → IsIndexed links index → queue_at index n ≡ p ∷ rest
    → IsThere links p
there_first links index p n rest was own =
    there_among links p (places_among n (all_of links) p (subst (λ l. AmongPlaces l p) (sym own ∙ was.queues n) (inl refl)))

-- a node that the index has no places of isn't linked
pub none_linked : (links : Lists Link) (index : Rows Queue) (n : NodeId) → IsIndexed links index → queue_at index n ≡ [] → Among n (kids_of (all_of links)) → ⊥
none_linked links index n was none = not_linked n (all_of links) (sym (was.queues n) ∙ none)

-- a node that the index has places of is linked
pub some_linked : (links : Lists Link) (index : Rows Queue) (n : NodeId) → IsIndexed links index → queue_at index n ≢ [] → Among n (kids_of (all_of links))
some_linked links index n was some = linked n (all_of links) (λ none. some (was.queues n ∙ none))
