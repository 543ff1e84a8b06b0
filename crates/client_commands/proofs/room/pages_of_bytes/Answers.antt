use Rattle.std.proofs.Common.{◌+◌, ◌-◌, ◌∙◌, ap, refl}
use Rattle.client_commands.proofs.Wanted.{none_counted, some_counted}
use Rattle.client_commands.proofs.room.pages_of_bytes.Goals as goal

pub returns-then-bytes-eq0-clause-count : goal.returns-then-bytes-eq0-clause-count
returns-then-bytes-eq0-clause-count c = none_counted c.args.offset c.args.bytes c.if-bytes-eq0.true

pub returns-then-bytes-lt-FARTHEST-clause-count : goal.returns-then-bytes-lt-FARTHEST-clause-count
returns-then-bytes-lt-FARTHEST-clause-count c = ap (λ n. n + 1) c.saturating_sub.ensures ∙ some_counted c.args.offset c.args.bytes (c.args.offset + (c.args.bytes - 1)) c.if-bytes-eq0.false refl
