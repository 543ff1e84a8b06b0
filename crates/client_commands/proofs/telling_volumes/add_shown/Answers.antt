use Rattle.std.proofs.Common.{refl}
use Rattle.std.proofs.Math.Logic.{∥∥₁_map}
use Rattle.file_commands.specs.fileset_values.declared.command.Actor.TheVariants.{Client}
use Rattle.file_commands.specs.fileset_values.declared.entry.Entry.{Entry}
use Rattle.client_commands.proofs.FrameKept.{frame_is}
use Rattle.client_commands.proofs.VolumesTold.{may_tell, showing_client, shown_calm, shown_spared}
use Rattle.client_commands.proofs.telling_volumes.add_shown.Goals as goal

pub commit_unchanged-requires-clause-step : goal.commit_unchanged-requires-clause-step
commit_unchanged-requires-clause-step g c = λ all stands.
    let o = g.O.Opening in
    let it = c.args.domain in
    let e : Entry = record { actor = Client c.args.client; command = c.args.command; reply = c.args.reply; stamp = c.calls-stamp.result } in
    may_tell o.pages o.frame o.sizes it.memory it.history.entries.items it.history.job e all
    (frame_is it.memory.frame o.frame (∥∥₁_map it.stands (λ goes. goes.same)))
    (record { stamp = c.calls-stamp.ensures.stamps c.requires.first; calm = it.history.calm; client = c.args.client; actor = refl; command = showing_client c.args.command c.requires.showing })
    c.requires.showing (c.requires.shown all stands)

pub commit_unchanged-requires-clause-calm : goal.commit_unchanged-requires-clause-calm
commit_unchanged-requires-clause-calm g c =
    shown_calm c.args.domain.memory c.args.command c.args.reply (∥∥₁_map c.args.domain.stands (λ goes. (goes.all, goes.stands))) c.requires.shown

pub commit_unchanged-requires-clause-cause : goal.commit_unchanged-requires-clause-cause
commit_unchanged-requires-clause-cause g c = λ free need is.
    absurd (shown_spared c.args.domain.memory c.args.command c.args.reply (∥∥₁_map c.args.domain.stands (λ goes. (goes.all, goes.stands))) c.requires.shown free need is)

pub returns-clause-adds : goal.returns-clause-adds
returns-clause-adds g c = record { stamp = c.calls-stamp.result; adds = c.commit_unchanged.ensures.history }
