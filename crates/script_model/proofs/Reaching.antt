-- Walks of steps that follow one another.
use Rattle.inc_value.specs.Choice.{Reaches, here, step}

pub reaches_join : {A : Type 0} (R : A → A → Type 0) (a b c : A) → Reaches R a b → Reaches R b c → Reaches R a c
reaches_join R a b c here on = on
reaches_join R a b c (step {b = k} first rest) on = step first (reaches_join R k b c rest on)
