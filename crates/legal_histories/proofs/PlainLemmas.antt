-- A run over filesets without volumes is a legal history.
use Rattle.std.proofs.Common.{◌≡◌, ℕ, ◌≤◌, List, [], ◌∷◌, ◌++◌, length, map as map_each, Option, Some, None, refl, sym, ap, subst, ◌∙◌, inl, inr, arith, length-append}
use Rattle.std.proofs.lemmas.List.{map-append}
use Rattle.std.proofs.Math.Seq.{get_or-append_seam, take-append_seam}
use Rattle.std.proofs.lemmas.List.Elements.{All-take, All-weaker}
use Rattle.std.specs.Option.{option_map}
use Rattle.fileset_model.specs.fileset_values.declared.reply.Refusal.TheVariants.{Panicked}
use Rattle.fileset_model.specs.fileset_values.declared.reply.Reply.TheVariants.{Refused}
use Rattle.std.specs.FinMap as map
use Rattle.std.specs.List.{All, Contains}
use Rattle.fileset_model.specs.Apply.{AnswersIfMemory}
use Rattle.fileset_model.specs.fileset_values.Orders.{Name}
use Rattle.fileset_model.specs.Filesets.{FilesetMap}
use Rattle.fileset_model.specs.fileset_values.declared.command.Actor.{Actor}
use Rattle.fileset_model.specs.fileset_values.declared.command.Actor.TheVariants.{Client, Mover}
use Rattle.fileset_model.specs.fileset_values.declared.entry.Entry.{Entry}
use Rattle.fileset_model.specs.declared.fileset.FilesetSlot.{FilesetSlot}
use Rattle.fileset_model.specs.declared.fileset.Role.{Role}
use Rattle.fileset_model.specs.declared.fileset.Role.TheVariants.{Original, CloneOf}
use Rattle.legal_histories.specs.Legal.{Chain, IsForActor, Legal, MayFollow}
use Rattle.legal_histories.specs.Legal.Chain.{stays, entry}
use Rattle.fileset_model.specs.LooksLike.{LooksLikeSlot, LooksLikeThere}
use Rattle.legal_histories.specs.Marks.{RoleGains, SlotGains}
use Rattle.legal_histories.specs.PlainRun.{IsClients, PlainRun}
use Rattle.legal_histories.specs.PlainRun.PlainRun.{none as no_entry, entry as one_more}
use Rattle.legal_histories.specs.Point.{Answered, Job, Point, history_of, job_after, point_after, running_job, start_point}
use Rattle.legal_histories.specs.State.{State, with_filesets}
use Rattle.legal_histories.specs.Step.{Step}
use Rattle.legal_histories.specs.Step.Step.{applied, out_of_memory}
use Rattle.legal_histories.proofs.Inside.{no_panic}

-- ---- lists that grow at their end

pub All-front : {X : Type 0} (P : X → Type 0) (xs : List X) (x : X) → All P (xs ++ x ∷ []) → All P xs
All-front P xs x each = subst (All P) (take-append_seam xs (x ∷ [])) (All-take P (length xs) (xs ++ x ∷ []) each)

pub All-last : {X : Type 0} (P : X → Type 0) (xs : List X) (x : X) → All P (xs ++ x ∷ []) → P x
All-last P xs x each = subst P (get_or-append_seam xs x [] x) (each (length xs) x (omega (arith, length-append xs (x ∷ []))))

-- ---- what stays

role_stays : (Allowed : Name → FilesetSlot → ℕ → Type 0) (slot : FilesetSlot) (role : Role) → RoleGains Allowed slot role role
role_stays Allowed slot Original = refl
role_stays Allowed slot (CloneOf original out) = (refl, λ number was. was, λ number is not. absurd (cc))

pub slot_stays : (Allowed : Name → FilesetSlot → ℕ → Type 0) (found : Option FilesetSlot) → SlotGains Allowed found found
slot_stays Allowed None = refl
slot_stays Allowed (Some slot) = (refl, role_stays Allowed slot slot.role)

slot_itself : (slot : FilesetSlot) → LooksLikeSlot slot slot
slot_itself slot = record {
  of = refl;
  original = λ original. refl;
  limits = refl;
  paths = λ path shown. refl;
  out = λ path shown. refl;
  kinds = λ path shown. refl;
  nodes = λ path number shows. refl;
  links = λ path number shows. refl;
}

pub there_itself : (found : Option FilesetSlot) → LooksLikeThere found found
there_itself None = refl
there_itself (Some slot) = slot_itself slot

-- ---- the chain

-- where a chain over such a history has come to
record Arrives (start : State) (history : List Entry) (all : FilesetMap) : Type 0 where
  point : Point
  chain : Chain (start_point start) point
  answered : history_of point.past ≡ history
  idle : point.job ≡ None
  filesets : point.state.filesets ≡ all
  rest : point.state ≡ record start { filesets = all; striped = point.state.striped }

step_of : (point : Point) (e : Entry) (new : FilesetMap) → AnswersIfMemory point.state.filesets e.command e.reply new
    → (state : State) × (state.filesets ≡ new) × (state ≡ record point.state { filesets = new; striped = state.striped }) × Step point e state
step_of point e new (inl as_meant) =
    let state = with_filesets new point.state in
    (state, refl, refl, applied state (as_meant, refl) (λ name. slot_stays _ (map.get new name)) (inl refl) refl)
step_of point e new (inr for_memory) =
    (point.state, sym for_memory.1, ap (λ (all : FilesetMap). record point.state { filesets = all }) (sym for_memory.1), out_of_memory for_memory.0 refl)

job_none : (actor : Actor) (job : Option Job) → job ≡ None → job_after actor job ≡ None
job_none (Client number) job none = none
job_none Mover job none = refl

arrives : (start : State) (stamp : ℕ) (history : List Entry) (all : FilesetMap) → PlainRun start.filesets history all → All IsClients history
    → All (λ e. e.stamp ≡ stamp) history → Arrives start history all
arrives start stamp _ _ no_entry clients stamps = record { point = start_point start; chain = stays; answered = refl; idle = refl; filesets = refl; rest = refl }
arrives start stamp _ _ (one_more {history} {all} before e new is) clients stamps =
    let stamps_before = All-front (λ e. e.stamp ≡ stamp) history e stamps in
    let c = arrives start stamp history all before (All-front IsClients history e clients) stamps_before in
    let client = All-last IsClients history e clients in
    let step = step_of c.point e new (subst (λ a. AnswersIfMemory a e.command e.reply new) (sym c.filesets) is) in
    let same : e.stamp ≡ stamp = All-last (λ e. e.stamp ≡ stamp) history e stamps in
    let follows : MayFollow c.point e = record {
      stamp = subst (All (λ (b : Entry). b.stamp ≤ e.stamp)) (sym c.answered)
          (All-weaker (λ (b : Entry). b.stamp ≡ stamp) (λ (b : Entry). b.stamp ≤ e.stamp) (λ b at. omega (arith, at, same)) history stamps_before);
      panicked = λ volume had. absurd (no_panic start.filesets history all e volume before (subst (λ h. Contains (map_each (λ (b : Entry). b.reply) h) (Refused (Panicked volume))) c.answered had));
      actor = subst (λ (actor : Actor). IsForActor actor e.command (running_job c.point)) (sym client.actor) client.command;
    } in record {
      point = point_after c.point e step.0;
      chain = entry c.chain e step.0 follows step.3;
      answered = map-append (λ (a : Answered). a.entry) c.point.past _ ∙ ap (λ h. h ++ e ∷ []) c.answered;
      idle = job_none e.actor c.point.job c.idle;
      filesets = step.1;
      rest = step.2 ∙ ap (λ (s : State). record s { filesets = new; striped = step.0.striped }) c.rest;
    }

pub legal : (start : State) (history : List Entry) (all : FilesetMap) (stamp : ℕ) → PlainRun start.filesets history all → All IsClients history
    → All (λ e. e.stamp ≡ stamp) history → (end : State) × (end ≡ record start { filesets = all; striped = end.striped }) × Legal start history None end
legal start history all stamp plain clients stamps =
    let c = arrives start stamp history all plain clients stamps in (
      c.point.state,
      c.rest,
      record {
        point = c.point;
        chain = c.chain;
        answered = c.answered;
        running = ap (λ (j : Option Job). option_map (λ job. job.command) j) c.idle;
        ends = record { filesets = λ name. there_itself (map.get c.point.state.filesets name); rest = refl };
      },
    )
