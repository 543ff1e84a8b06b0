-- One entry more.
use Rattle.std.proofs.Common.{◌≡◌, ◌∙◌, List, [], ◌∷◌, ◌++◌, Option, Some, None, inl, refl, sym, ap}
use Rattle.std.proofs.lemmas.List.{map-append}
use Rattle.std.specs.Option.{option_map}
use Rattle.std.specs.FinMap as map
use Rattle.fileset_model.specs.Apply.{original_of}
use Rattle.fileset_model.specs.Filesets.{FilesetMap}
use Rattle.fileset_model.specs.LooksLike.{LooksLikeSlot, LooksLikeThere}
use Rattle.fileset_model.specs.fileset_values.Orders.{name_cmp-total, name_cmp-IsAntisymmetric}
use Rattle.fileset_model.specs.fileset_values.declared.command.Actor.{Actor}
use Rattle.fileset_model.specs.fileset_values.declared.command.Actor.TheVariants.{Client, Mover}
use Rattle.fileset_model.specs.fileset_values.declared.command.Command.{Command}
use Rattle.fileset_model.specs.fileset_values.declared.entry.Entry.{Entry}
use Rattle.fileset_model.specs.declared.fileset.FilesetSlot.{FilesetSlot}
use Rattle.fileset_model.specs.declared.fileset.Role.{Role}
use Rattle.fileset_model.specs.declared.fileset.Role.TheVariants.{Original, CloneOf}
use Rattle.legal_histories.specs.Legal.{Legal}
use Rattle.legal_histories.specs.Legal.Chain.{stays, entry}
use Rattle.legal_histories.specs.Point.{Answered, Job, Point, job_after, point_after, start_point}
use Rattle.legal_histories.specs.State.{Apply, LooksLikeState, State}
use Rattle.legal_histories.specs.Step.{Step}
use Rattle.legal_histories.specs.Step.Step.{applied}
use Rattle.legal_histories.specs.GoingOn.{HaveNoClone, MayGoOn, MayGoOnFrom, job_left}
use Rattle.legal_histories.proofs.PlainLemmas.{slot_stays, there_itself}

looks_itself : (s : State) → LooksLikeState s s
looks_itself s = record { filesets = λ name. there_itself (map.get s.filesets name); rest = refl }

pub begins : (start : State) → Legal start [] None start
begins start = record { point = start_point start; chain = stays; answered = refl; running = refl; ends = looks_itself start }

job_after_is : (actor : Actor) (j : Option Job) (job : Option Command) → option_map (λ (b : Job). b.command) j ≡ job → option_map (λ (b : Job). b.command) (job_after actor j) ≡ job_left actor job
job_after_is (Client number) j job is = is
job_after_is Mover j job is = refl

pub goes_on : (start now new : State) (history : List Entry) (job : Option Command) (e : Entry) → Legal start history job now → MayGoOn start history job now e new → Legal start (history ++ e ∷ []) (job_left e.actor job) new
goes_on start now new history job e legal may =
    let p = legal.point in
    let on = may p (record { chain = legal.chain; answered = legal.answered; running = legal.running }) legal.ends in
    record {
      point = point_after p e on.end;
      chain = entry legal.chain e on.end on.follows on.step;
      answered = map-append (λ (a : Answered). a.entry) p.past _ ∙ ap (λ (h : List Entry). h ++ e ∷ []) legal.answered;
      running = job_after_is e.actor p.job job legal.running;
      ends = on.looks;
    }

-- ---- without clones

none≢some : {X : Type 0} (x : X) → None ≡ Some x → ⊥
none≢some x e = cc

no_original : (role : Role) → None ≡ original_of role → role ≡ Original
no_original Original is = refl
no_original (CloneOf original out) is = absurd (none≢some original is)

same_slot : (slot other : FilesetSlot) → LooksLikeSlot slot other → other.role ≡ Original → slot ≡ other
same_slot slot other alike original = sym (alike.original (no_original slot.role (sym (ap original_of original) ∙ alike.of)))

same_there : (found other : Option FilesetSlot) → LooksLikeThere found other → ((slot : FilesetSlot) → other ≡ Some slot → slot.role ≡ Original) → found ≡ other
same_there None other alike originals = sym alike
same_there (Some slot) None alike originals = absurd alike
same_there (Some slot) (Some other) alike originals = ap Some (same_slot slot other alike (originals other refl))

pub one_state : (s other : State) → LooksLikeState s other → HaveNoClone other.filesets → s ≡ other
one_state s other alike none =
    let same : s.filesets ≡ other.filesets =
    map.same_map name_cmp-total name_cmp-IsAntisymmetric s.filesets other.filesets (λ name. same_there (map.get s.filesets name) (map.get other.filesets name) (alike.filesets name) (none name)) in
    ap (λ (all : FilesetMap). record s { filesets = all }) same ∙ sym alike.rest

pub goes_on_from : (start now new : State) (history : List Entry) (job : Option Command) (e : Entry) → HaveNoClone now.filesets → Legal start history job now → MayGoOnFrom start history job now e new
    → Legal start (history ++ e ∷ []) (job_left e.actor job) new
goes_on_from start now new history job e none legal may = goes_on start now new history job e legal (λ point comes alike. may point comes (one_state point.state now alike none))

-- ---- a command on filesets

pub command_steps : (point : Point) (e : Entry) (new : State) → Apply point.state e.command e.reply new → Step point e new
command_steps point e new means = applied new means (λ name. slot_stays _ (map.get new.filesets name)) (inl refl) refl
