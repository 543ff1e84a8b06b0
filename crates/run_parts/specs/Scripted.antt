-- Sources and sinks in memory, which fail at the calls that were listed when they were made.
use Rattle.std.specs.Prelude.{ℕ, List}

-- a source in memory: the bytes left, the numbers of the calls that fail, counted from 1, how many
-- calls there were, and how many of them failed
pub record Supply : Type 0 where
  pub left : List ℕ
  pub fails : List ℕ
  pub calls : ℕ
  pub faults : ℕ

-- a sink in memory: the bytes that it holds, and the rest as in a source
pub record Store : Type 0 where
  pub held : List ℕ
  pub fails : List ℕ
  pub calls : ℕ
  pub faults : ℕ
