-- A change that was laid over a domain's memory, from the domain that it was laid over.
use Rattle.std.proofs.Common.{◌≡◌, ◌∙◌, ℕ, List, Result, inl, inr, sym, subst}
use Rattle.file_commands.specs.fileset_model.Filesets.{FilesetMap}
use Rattle.file_commands.specs.fileset_values.declared.command.Command.{Command}
use Rattle.file_commands.specs.fileset_values.declared.entry.Entry.{Entry}
use Rattle.file_commands.specs.fileset_values.declared.reply.Reply.{Reply}
use Rattle.file_commands.specs.domain_memory.Kept.{KeepsKept}
use Rattle.file_commands.specs.domain_memory.Memory.{StandsFor}
use Rattle.file_commands.specs.domain_memory.declared.memory.DomainMemory.{DomainMemory}
use Rattle.file_commands.proofs.OfDomainMemory.KeptStands.{stands_so}
use Rattle.file_commands.specs.name_commands.Coming.{AddsAnswer, AddsNoSpace, AddsOne}
use Rattle.file_commands.specs.name_commands.Ending.{EndsAs}
use Rattle.file_commands.specs.name_commands.declared.stop.Stop.{Stop}
use Rattle.client_commands.proofs.Coming.{kept_turned}

module _ (first old changed laid : DomainMemory) (is_old : old ≡ first) (kept : KeepsKept old changed) (is_laid : laid ≡ changed) where
  pub laid_stands : (all : FilesetMap) → StandsFor first all → StandsFor laid all
  laid_stands all stands = subst (λ (m : DomainMemory). StandsFor m all) (sym is_laid) (stands_so old changed kept all (subst (λ (m : DomainMemory). StandsFor m all) (sym is_old) stands))

  pub was_stands : (all : FilesetMap) → StandsFor laid all → StandsFor old all
  was_stands all stands = stands_so changed old (kept_turned old changed kept) all (subst (λ (m : DomainMemory). StandsFor m all) is_laid stands)

  pub ends_laid : (command : Command) (staged : Result Reply Stop) → ((all : FilesetMap) → StandsFor old all → EndsAs changed all command staged) → (all : FilesetMap) → StandsFor laid all → EndsAs laid all command staged
  ends_laid command staged ends all stands = subst (λ (m : DomainMemory). EndsAs m all command staged) (sym is_laid) (ends all (was_stands all stands))

-- ---- an entry that is added over memory that stands for the same filesets

module _ (client : ℕ) (command : Command) (first laid now : DomainMemory) (before was after : List Entry) (stands : (all : FilesetMap) → StandsFor first all → StandsFor laid all) (same : was ≡ before) where
  pub adds_answer : AddsAnswer client command laid now was after → AddsAnswer client command first now before after
  adds_answer adds = subst (λ (h : List Entry). AddsAnswer client command first now h after) same (record {
    reply = adds.reply;
    stamp = adds.stamp;
    adds = adds.adds;
    means = λ all stood. adds.means all (stands all stood);
  })

  adds_no_space : AddsNoSpace client command laid now was after → AddsNoSpace client command first now before after
  adds_no_space adds = subst (λ (h : List Entry). AddsNoSpace client command first now h after) same (record {
    stamp = adds.stamp;
    adds = adds.adds;
    short = adds.short;
    takes = λ all stood. adds.takes all (stands all stood);
    allowed = λ all stood. adds.allowed all (stands all stood);
    stands = λ all stood. adds.stands all (stands all stood);
  })

  pub adds_one : AddsOne client command laid now was after → AddsOne client command first now before after
  adds_one (inl answer) = inl (adds_answer answer)
  adds_one (inr short) = inr (adds_no_space short)

-- what is let go of after an answer
pub released : (client : ℕ) (command : Command) (old mid new : DomainMemory) (before between after : List Entry) → ((all : FilesetMap) → StandsFor mid all → StandsFor new all) → after ≡ between
    → AddsAnswer client command old mid before between → AddsAnswer client command old new before after
released client command old mid new before between after stands same adds = record {
  reply = adds.reply;
  stamp = adds.stamp;
  adds = same ∙ adds.adds;
  means = λ all stood. let m = adds.means all stood in (m.0, m.1, stands m.0 m.2);
}
