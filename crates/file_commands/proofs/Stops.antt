-- How a command ends where one of its calls stops it.
use Rattle.std.proofs.Common.{◌≡◌, ◌∙◌, None, Some, Result, Ok, Err, IfErr, sym, subst}
use Rattle.std.specs.Result.{IsErrAnd}
use Rattle.name_commands.specs.page_store.declared.fault.StoreFault.{StoreFault}
use Rattle.name_commands.specs.page_store.declared.fault.StoreFault.TheVariants as fault
use Rattle.name_commands.specs.fileset_model.Apply.{refusal_of}
use Rattle.name_commands.specs.fileset_model.Filesets.{FilesetMap}
use Rattle.name_commands.specs.fileset_values.declared.command.Command.{Command}
use Rattle.name_commands.specs.fileset_values.declared.reply.Refusal.{Refusal}
use Rattle.name_commands.specs.fileset_values.declared.reply.Reply.{Reply}
use Rattle.name_commands.specs.domain_memory.declared.memory.DomainMemory.{DomainMemory}
use Rattle.name_commands.specs.Ending.{EndsAs, StopsAs, stop_of}
use Rattle.name_commands.specs.declared.stop.Stop.{Stop}
use Rattle.name_commands.specs.declared.stop.Stop.TheVariants.{NoPage, Refused}

module _ (memory : DomainMemory) (all : FilesetMap) (command : Command) (r : Result Reply Stop) where
  -- a rule refuses it
  pub ends_refused : (stop : Stop) (refusal : Refusal) → IsErrAnd r (λ e. e ≡ stop) → stop ≡ Refused refusal → refusal_of all command ≡ Some refusal → EndsAs memory all command r
  ends_refused stop refusal same is refuses = by r same
    where
      by : (x : Result Reply Stop) → IsErrAnd x (λ e. e ≡ stop) → EndsAs memory all command x
      by (Ok reply) e = absurd e
      by (Err e) e_is = subst (λ (s : Stop). StopsAs all command s) (sym (e_is ∙ is)) refuses

  -- a call wants a page or memory, if no rule refuses it
  pub ends_wanting : (why : StoreFault) → IsErrAnd r (λ e. e ≡ stop_of why) → refusal_of all command ≡ None → EndsAs memory all command r
  ends_wanting why same allowed = by r same
    where
      of_fault : (x : StoreFault) → StopsAs all command (stop_of x)
      of_fault fault.NoPage = allowed
      of_fault fault.OutOfMemory = tt

      by : (x : Result Reply Stop) → IsErrAnd x (λ e. e ≡ stop_of why) → EndsAs memory all command x
      by (Ok reply) e = absurd e
      by (Err e) e_is = subst (λ (s : Stop). StopsAs all command s) (sym e_is) (of_fault why)

-- what a call wants a page for
pub wants_page : (r : Result Reply Stop) (why : StoreFault) (P : StoreFault → Type 0) → IsErrAnd r (λ e. e ≡ stop_of why) → P why → IfErr r (λ stop. stop ≡ NoPage → P fault.NoPage)
wants_page (Ok reply) why P same p = absurd same
wants_page (Err e) why P same p = λ is. of_fault why (sym same ∙ is) p
  where
    of_fault : (x : StoreFault) → stop_of x ≡ NoPage → P x → P fault.NoPage
    of_fault fault.NoPage is p = p
    of_fault fault.OutOfMemory is p = absurd (cc)

-- a rule that refuses a command wants none
pub wants_none : (r : Result Reply Stop) (stop : Stop) (refusal : Refusal) (P : Type 0) → IsErrAnd r (λ e. e ≡ stop) → stop ≡ Refused refusal → IfErr r (λ s. s ≡ NoPage → P)
wants_none (Ok reply) stop refusal P same is = absurd same
wants_none (Err e) stop refusal P same is = λ wants. no (sym is ∙ sym same ∙ wants)
  where
    no : Refused refusal ≡ NoPage → P
    no x = absurd (cc)

-- the same of what is the same
pub ends_same : (memory m : DomainMemory) (all : FilesetMap) (command c : Command) (answer r : Result Reply Stop) → memory ≡ m → command ≡ c → answer ≡ r → EndsAs m all c r → EndsAs memory all command answer
ends_same memory m all command c answer r same is told ends =
    subst (λ (x : DomainMemory). EndsAs x all command answer) (sym same) (subst (λ (x : Command). EndsAs m all x answer) (sym is) (subst (λ (x : Result Reply Stop). EndsAs m all c x) (sym told) ends))
