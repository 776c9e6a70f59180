-- The laws of walks.
use Rattle.inc_terms.specs.Walk.{WalksReach, RisingWalksEnd, LowIsNotDeep}
use Rattle.inc_value.proofs.Walk.{walk_reaches, short_walk, distinct_walk, not_deep}

pub walks_reach : WalksReach
walks_reach links p q rest walk among = walk_reaches _ p q rest walk among

pub rising_walks_end : RisingWalksEnd
rising_walks_end links height p rest rises walk = (short_walk _ height rises p rest walk, distinct_walk _ height rises p rest walk)

pub low_is_not_deep : LowIsNotDeep
low_is_not_deep links height rises low p deep = not_deep _ height rises low p deep
