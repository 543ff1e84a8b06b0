-- What the table of commands reads by a word that scripts may have is answered.
use Rattle.std.proofs.Common.{◌≡◌, ℕ, ◌^◌, true, Option, Some, option_map, List, [], ◌∷◌, codes, subst}
use Rattle.std.specs.Str.{bytes_eq}
use Rattle.std.proofs.lemmas.Option.{option_and_then_some}
use Rattle.domain_attaching.specs.fileset_values.declared.command.Command.{Command}
use Rattle.domain_attaching.specs.fileset_values.declared.command.Command.TheVariants.{Mkfset, Rmfset, Showfsets, Setquota, Showquota, Create, Mkdir, Write, Read, Truncate, Rename, Link, Links, Unlink, Rmdir, List as ListAt, Stat, Fsync, Chfile, Sync, Cancel, Showfdmn, Showfile}
use Rattle.domain_attaching.specs.fileset_values.declared.command.Place.{Place}
use Rattle.run_parts.specs.command_text.declared.verb.Verb.{Verb}
use Rattle.run_parts.specs.command_text.declared.verb.Verb.TheVariants as verb
use Rattle.run_parts.specs.command_text.Commands.{chfile, command_of, made, no_word, one_word, read, row_of, setquota, showquota, truncate, two_paths, write}
use Rattle.domain_attaching.specs.word_forms.Forms.{bytes_of, fileset_of, named_path_of, named_place_of, number_below, number_within, owner_of, passing, place_of, switch_of}
use Rattle.domain_attaching.specs.word_forms.WellFormed.{IsNamed, IsNamedPath}
use Rattle.domain_attaching.proofs.OfWordForms.ReadForms.{fileset_is, map_some, named_path_is, named_place_is, some_same}
use Rattle.client_commands.specs.name_commands.Ending.{IsServed}
use Rattle.advfs_run.proofs.Names.{gets}

said : (x c : Command) → Some x ≡ Some c → IsServed x → IsServed c
said x c e is = let P : Command → Type 0 = IsServed in subst P (some_same x c e) is

none_said : (x c : Command) (words : List (List ℕ)) → no_word x words ≡ Some c → IsServed x → IsServed c
none_said x c [] e is = said x c e is
none_said x c (w ∷ ws) e is = absurd (cc)

one_said : {A : Type 0} (form : List ℕ → Option A) (make : A → Command) → ((w : List ℕ) (x : A) → form w ≡ Some x → IsServed (make x))
    → (words : List (List ℕ)) (c : Command) → option_map make (one_word form words) ≡ Some c → IsServed c
one_said form make is [] c e = absurd (cc)
one_said form make is (w ∷ []) c e = map_some make (form w) c (IsServed c) e (λ x here last. let P : Command → Type 0 = IsServed in subst P last (is w x here))
one_said form make is (w ∷ v ∷ ws) c e = absurd (cc)

made_said : (make : Place → ℕ → ℕ → Command) → ((place : Place) (uid gid : ℕ) → IsNamed place → IsServed (make place uid gid))
    → (words : List (List ℕ)) (c : Command) → made make words ≡ Some c → IsServed c
unfolding made
made_said make is (p ∷ u ∷ g ∷ []) c e =
    option_and_then_some _ (named_place_of p) c e (λ place at1 e1.
    option_and_then_some _ (number_below (2 ^ 32) u) c e1 (λ uid at2 e2.
    option_and_then_some _ (number_below (2 ^ 32) g) c e2 (λ gid at3 e3.
    said (make place uid gid) c e3 (is place uid gid (named_place_is p place at1)))))
made_said make is words c e = absurd (cc)

two_said : (make : Place → List (List ℕ) → Command) → ((place : Place) (to : List (List ℕ)) → IsNamedPath to → IsServed (make place to))
    → (words : List (List ℕ)) (c : Command) → two_paths make words ≡ Some c → IsServed c
unfolding two_paths
two_said make is (p ∷ t ∷ []) c e =
    option_and_then_some _ (named_place_of p) c e (λ place at1 e1.
    option_and_then_some _ (named_path_of t) c e1 (λ to at2 e2.
    said (make place to) c e2 (is place to (named_path_is t to at2))))
two_said make is words c e = absurd (cc)

setquota_said : (words : List (List ℕ)) (c : Command) → setquota words ≡ Some c → IsServed c
unfolding setquota
setquota_said (f ∷ k ∷ i ∷ n ∷ b ∷ []) c e =
    option_and_then_some _ (fileset_of f) c e (λ fileset at1 e1.
    option_and_then_some _ (owner_of k i) c e1 (λ who at2 e2.
    option_and_then_some _ (number_below (2 ^ 64) n) c e2 (λ files at3 e3.
    option_and_then_some _ (number_below (2 ^ 64) b) c e3 (λ blocks at4 e4. said (Setquota fileset who files blocks) c e4 tt))))
setquota_said words c e = absurd (cc)

showquota_said : (words : List (List ℕ)) (c : Command) → showquota words ≡ Some c → IsServed c
unfolding showquota
showquota_said (f ∷ k ∷ i ∷ []) c e =
    option_and_then_some _ (fileset_of f) c e (λ fileset at1 e1.
    option_and_then_some _ (owner_of k i) c e1 (λ who at2 e2. said (Showquota fileset who) c e2 tt))
showquota_said words c e = absurd (cc)

write_said : (words : List (List ℕ)) (c : Command) → write words ≡ Some c → IsServed c
unfolding write
write_said (p ∷ o ∷ b ∷ []) c e =
    option_and_then_some _ (place_of p) c e (λ place at1 e1.
    option_and_then_some _ (number_below (2 ^ 64) o) c e1 (λ offset at2 e2.
    option_and_then_some _ (bytes_of b) c e2 (λ bytes at3 e3. said (Write place offset bytes) c e3 tt)))
write_said words c e = absurd (cc)

read_said : (words : List (List ℕ)) (c : Command) → read words ≡ Some c → IsServed c
unfolding read
read_said (p ∷ o ∷ n ∷ []) c e =
    option_and_then_some _ (place_of p) c e (λ place at1 e1.
    option_and_then_some _ (number_below (2 ^ 64) o) c e1 (λ offset at2 e2.
    option_and_then_some _ (number_within 0 8_192 n) c e2 (λ count at3 e3. said (Read place offset count) c e3 tt)))
read_said words c e = absurd (cc)

truncate_said : (words : List (List ℕ)) (c : Command) → truncate words ≡ Some c → IsServed c
unfolding truncate
truncate_said (p ∷ s ∷ []) c e =
    option_and_then_some _ (place_of p) c e (λ place at1 e1.
    option_and_then_some _ (number_below (2 ^ 64) s) c e1 (λ size at2 e2. said (Truncate place size) c e2 tt))
truncate_said words c e = absurd (cc)

chfile_said : (words : List (List ℕ)) (c : Command) → chfile words ≡ Some c → IsServed c
unfolding chfile
chfile_said (o ∷ s ∷ p ∷ []) c e =
    option_and_then_some _ (passing (bytes_eq o (codes "-L")) o) c e (λ option at1 e1.
    option_and_then_some _ (switch_of s) c e1 (λ logged at2 e2.
    option_and_then_some _ (place_of p) c e2 (λ place at3 e3. said (Chfile place logged) c e3 tt)))
chfile_said words c e = absurd (cc)

pub command_served : (v : Verb) (words : List (List ℕ)) (c : Command) → (row_of v).in_scripts ≡ true → command_of v words ≡ Some c → IsServed c
command_served verb.Mkfset words c is e = one_said fileset_of Mkfset fileset_is words c e
command_served verb.Rmfset words c is e = one_said fileset_of Rmfset (λ w x h. tt) words c e
command_served verb.Clonefset words c is e = absurd (cc)
command_served verb.Showfsets words c is e = none_said Showfsets c words e tt
command_served verb.Setquota words c is e = setquota_said words c e
command_served verb.Showquota words c is e = showquota_said words c e
command_served verb.Create words c is e = made_said Create (λ place uid gid h. gets place.path h.1) words c e
command_served verb.Mkdir words c is e = made_said Mkdir (λ place uid gid h. gets place.path h.1) words c e
command_served verb.Write words c is e = write_said words c e
command_served verb.Read words c is e = read_said words c e
command_served verb.Truncate words c is e = truncate_said words c e
command_served verb.Rename words c is e = two_said Rename (λ place to h. gets to h) words c e
command_served verb.Link words c is e = two_said Link (λ place to h. gets to h) words c e
command_served verb.Links words c is e = one_said place_of Links (λ w x h. tt) words c e
command_served verb.Unlink words c is e = one_said named_place_of Unlink (λ w x h. tt) words c e
command_served verb.Rmdir words c is e = one_said named_place_of Rmdir (λ w x h. tt) words c e
command_served verb.List words c is e = one_said place_of ListAt (λ w x h. tt) words c e
command_served verb.Stat words c is e = one_said place_of Stat (λ w x h. tt) words c e
command_served verb.Fsync words c is e = one_said place_of Fsync (λ w x h. tt) words c e
command_served verb.Chfile words c is e = chfile_said words c e
command_served verb.Stripe words c is e = absurd (cc)
command_served verb.Sync words c is e = none_said Sync c words e tt
command_served verb.Cancel words c is e = none_said Cancel c words e tt
command_served verb.Showfdmn words c is e = none_said Showfdmn c words e tt
command_served verb.Showfile words c is e = one_said place_of Showfile (λ w x h. tt) words c e
command_served verb.Migrate words c is e = absurd (cc)
command_served verb.Balance words c is e = absurd (cc)
command_served verb.Addvol words c is e = absurd (cc)
command_served verb.Rmvol words c is e = absurd (cc)
command_served verb.Chvol words c is e = absurd (cc)
command_served verb.Switchlog words c is e = absurd (cc)
command_served verb.Upgrade words c is e = absurd (cc)
command_served verb.Defragment words c is e = absurd (cc)
