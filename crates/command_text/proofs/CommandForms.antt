-- What words were read as is a command whose parts are of the forms of their words, and no word of them is `->`.
use Rattle.std.proofs.Common.{◌≡◌, ℕ, ◌^◌, Bool, true, false, not, cond, Option, Some, None, option_map, List, [], ◌∷◌, codes, refl, ap, subst}
use Rattle.std.specs.List.{list_all}
use Rattle.std.specs.Str.{bytes_eq}
use Rattle.std.proofs.lemmas.Option.{option_and_then_some}
use Rattle.std.proofs.lemmas.Slice.Eq.{bytes_eq-Decides}
use Rattle.word_forms.specs.fileset_values.declared.command.Command.{Command}
use Rattle.word_forms.specs.fileset_values.declared.command.Command.TheVariants.{Mkfset, Rmfset, Clonefset, Showfsets, Setquota, Showquota, Create, Mkdir, Write, Read, Truncate, Rename, Link, Links, Unlink, Rmdir, List as ListAt, Stat, Fsync, Chfile, Stripe, Sync, Cancel, Showfdmn, Showfile, Migrate, Balance, Addvol, Rmvol, ChvolA, Switchlog, Upgrade, Defragment}
use Rattle.word_forms.specs.fileset_values.declared.command.Owner.{Owner}
use Rattle.word_forms.specs.fileset_values.declared.command.Owner.TheVariants.{User, Group, Fileset}
use Rattle.word_forms.specs.fileset_values.declared.command.Place.{Place}
use Rattle.command_text.specs.declared.verb.Verb.{Verb}
use Rattle.command_text.specs.declared.verb.Verb.TheVariants as verb
use Rattle.command_text.specs.Commands.{Optional, chfile, chvol, clonefset, command_of, made, migrate, migrate_to, no_word, one_word, optional, read, setquota, showquota, stripe, truncate, two_paths, write}
use Rattle.command_text.specs.WellFormed.{IsWellFormed}
use Rattle.word_forms.specs.Forms.{bytes_of, fileset_of, named_path_of, named_place_of, number_below, number_within, owner_of, passing, path_of, place_of, runs_of_word, run_of, byte_of, switch_of}
use Rattle.word_forms.specs.WellFormed.{IsFileset, IsNamed, IsNamedPath, IsOptional, IsOwner, IsPlace, IsSmall}
use Rattle.word_forms.proofs.ReadForms.{below_is, content_is, fileset_is, map_some, named_path_is, named_place_is, place_is, some_same, within_is}

-- a word that is not `->`
abbrev pub is_other : List ℕ → Bool
is_other word = not (bytes_eq word (codes "->"))

same_bytes : (xs ys : List ℕ) → bytes_eq xs ys ≡ true → xs ≡ ys
same_bytes xs ys e = (bytes_eq-Decides xs ys).0 e

-- a word that is read where `->` is not
pub other_read : {A : Type 0} (form : List ℕ → Option A) (word : List ℕ) (x : A) → form word ≡ Some x → form (codes "->") ≡ None → is_other word ≡ true
other_read {A} form word x e none = at (bytes_eq word (codes "->")) refl
  where
    contrary : word ≡ codes "->" → ⊥
    contrary h = let P : List ℕ → Type 0 = λ w. form w ≡ Some x in let g : form (codes "->") ≡ Some x = subst P h e in cc

    at : (t : Bool) → bytes_eq word (codes "->") ≡ t → not t ≡ true
    at true is = absurd (contrary (same_bytes word (codes "->") is))
    at false is = refl

-- the command, and the words that say it
abbrev Both : Command → List (List ℕ) → Type 0
Both c words = IsWellFormed c × (list_all is_other words ≡ true)

done : (x c : Command) (words : List (List ℕ)) → Some x ≡ Some c → IsWellFormed x → list_all is_other words ≡ true → Both c words
done x c words e well others = let P : Command → Type 0 = IsWellFormed in (subst P (some_same x c e) well, others)

none_is : (x c : Command) (words : List (List ℕ)) → no_word x words ≡ Some c → IsWellFormed x → Both c words
none_is x c [] e well = done x c [] e well refl
none_is x c (w ∷ ws) e well = absurd (cc)

one_is : {A : Type 0} (form : List ℕ → Option A) (P : A → Type 0) → ((w : List ℕ) (x : A) → form w ≡ Some x → P x) → form (codes "->") ≡ None
    → (make : A → Command) → ((x : A) → P x → IsWellFormed (make x))
    → (words : List (List ℕ)) (c : Command) → option_map make (one_word form words) ≡ Some c → Both c words
one_is form P is none make well [] c e = absurd (cc)
one_is form P is none make well (w ∷ []) c e =
    map_some make (form w) c (Both c (w ∷ [])) e (λ x here last.
    done (make x) c (w ∷ []) (ap Some last) (well x (is w x here)) (rw (other_read form w x here none) refl))
one_is form P is none make well (w ∷ v ∷ ws) c e = absurd (cc)

fileset_one : (make : List ℕ → Command) → ((x : List ℕ) → IsFileset x → IsWellFormed (make x)) → (words : List (List ℕ)) (c : Command)
    → option_map make (one_word fileset_of words) ≡ Some c → Both c words
unfolding fileset_of
fileset_one make well words c e = one_is fileset_of IsFileset fileset_is refl make well words c e

place_one : (make : Place → Command) → ((x : Place) → IsPlace x → IsWellFormed (make x)) → (words : List (List ℕ)) (c : Command)
    → option_map make (one_word place_of words) ≡ Some c → Both c words
unfolding place_of fileset_of
place_one make well words c e = one_is place_of IsPlace place_is refl make well words c e

named_one : (make : Place → Command) → ((x : Place) → IsNamed x → IsWellFormed (make x)) → (words : List (List ℕ)) (c : Command)
    → option_map make (one_word named_place_of words) ≡ Some c → Both c words
unfolding named_place_of place_of fileset_of
named_one make well words c e = one_is named_place_of IsNamed named_place_is refl make well words c e

volume_one : (make : ℕ → Command) → ((x : ℕ) → IsSmall x → IsWellFormed (make x)) → (words : List (List ℕ)) (c : Command)
    → option_map make (one_word (number_below (2 ^ 32)) words) ≡ Some c → Both c words
unfolding number_below
volume_one make well words c e = one_is (number_below (2 ^ 32)) IsSmall (below_is (2 ^ 32)) refl make well words c e

-- ** Words that are not `->`, each by its form

fileset_other : (w x : List ℕ) → fileset_of w ≡ Some x → is_other w ≡ true
unfolding fileset_of
fileset_other w x e = other_read fileset_of w x e refl

place_other : (w : List ℕ) (x : Place) → place_of w ≡ Some x → is_other w ≡ true
unfolding place_of fileset_of
place_other w x e = other_read place_of w x e refl

named_other : (w : List ℕ) (x : Place) → named_place_of w ≡ Some x → is_other w ≡ true
unfolding named_place_of place_of fileset_of
named_other w x e = other_read named_place_of w x e refl

path_other : (w : List ℕ) (x : List (List ℕ)) → named_path_of w ≡ Some x → is_other w ≡ true
unfolding named_path_of path_of
path_other w x e = other_read named_path_of w x e refl

pub number_other : (limit : ℕ) (w : List ℕ) (x : ℕ) → number_below limit w ≡ Some x → is_other w ≡ true
unfolding number_below
number_other limit w x e = other_read (number_below limit) w x e refl

pub within_other : (least most : ℕ) (w : List ℕ) (x : ℕ) → number_within least most w ≡ Some x → is_other w ≡ true
unfolding number_within number_below
within_other least most w x e = other_read (number_within least most) w x e refl

bytes_other : (w x : List ℕ) → bytes_of w ≡ Some x → is_other w ≡ true
unfolding bytes_of runs_of_word run_of byte_of
bytes_other w x e = other_read bytes_of w x e refl

switch_other : (w : List ℕ) (x : Bool) → switch_of w ≡ Some x → is_other w ≡ true
unfolding switch_of
switch_other w x e = other_read switch_of w x e refl

option_other : (name w x : List ℕ) → bytes_eq (codes "->") name ≡ false → passing (bytes_eq w name) w ≡ Some x → is_other w ≡ true
option_other name w x other e =
    let form : List ℕ → Option (List ℕ) = λ v. passing (bytes_eq v name) v in other_read form w x e (rw other refl)

kind_other : (k w : List ℕ) (x : Owner) → owner_of k w ≡ Some x → is_other k ≡ true
unfolding owner_of
kind_other k w x e = other_read (λ v. owner_of v w) k x e refl

id_none : (k : List ℕ) → owner_of k (codes "->") ≡ None
unfolding owner_of number_below number_within
id_none k = at (bytes_eq k (codes "user")) (bytes_eq k (codes "group")) (bytes_eq k (codes "fileset"))
  where
    at : (a b c : Bool) → (let o : Option Owner = cond a None (cond b None (cond c None None)) in o) ≡ None
    at true b c = refl
    at false true c = refl
    at false false true = refl
    at false false false = refl

id_other : (k w : List ℕ) (x : Owner) → owner_of k w ≡ Some x → is_other w ≡ true
id_other k w x e = other_read (owner_of k) w x e (id_none k)

owner_is : (k w : List ℕ) (x : Owner) → owner_of k w ≡ Some x → IsOwner x
unfolding owner_of
owner_is k w x e = at (bytes_eq k (codes "user")) (bytes_eq k (codes "group")) (bytes_eq k (codes "fileset")) e
  where
    id : (make : ℕ → Owner) → ((n : ℕ) → IsSmall n → IsOwner (make n)) → option_map make (number_below (2 ^ 32) w) ≡ Some x → IsOwner x
    id make well h =
        map_some make (number_below (2 ^ 32) w) x (IsOwner x) h (λ n is last.
        let P : Owner → Type 0 = IsOwner in subst P last (well n (below_is (2 ^ 32) w n is)))

    at : (a b c : Bool)
        → cond a (option_map User (number_below (2 ^ 32) w)) (cond b (option_map Group (number_below (2 ^ 32) w)) (cond c (option_map (λ n. Fileset) (number_within 0 0 w)) None)) ≡ Some x
        → IsOwner x
    at true b c h = id User (λ n small. small) h
    at false true c h = id Group (λ n small. small) h
    at false false true h =
        map_some (λ n. Fileset) (number_within 0 0 w) x (IsOwner x) h (λ n is last. let P : Owner → Type 0 = IsOwner in subst P last tt)
    at false false false h = absurd (cc)

-- ** Commands of several words

made_is : (make : Place → ℕ → ℕ → Command) → ((place : Place) (uid gid : ℕ) → IsNamed place → IsSmall uid → IsSmall gid → IsWellFormed (make place uid gid))
    → (words : List (List ℕ)) (c : Command) → made make words ≡ Some c → Both c words
unfolding made
made_is make well (p ∷ u ∷ g ∷ []) c e =
    option_and_then_some _ (named_place_of p) c e (λ place at1 e1.
    option_and_then_some _ (number_below (2 ^ 32) u) c e1 (λ uid at2 e2.
    option_and_then_some _ (number_below (2 ^ 32) g) c e2 (λ gid at3 e3.
    done (make place uid gid) c (p ∷ u ∷ g ∷ []) e3
    (well place uid gid (named_place_is p place at1) (below_is (2 ^ 32) u uid at2) (below_is (2 ^ 32) g gid at3))
    (rw (named_other p place at1, number_other (2 ^ 32) u uid at2, number_other (2 ^ 32) g gid at3) refl))))
made_is make well words c e = absurd (cc)

two_is : (make : Place → List (List ℕ) → Command) → ((place : Place) (to : List (List ℕ)) → IsNamed place → IsNamedPath to → IsWellFormed (make place to))
    → (words : List (List ℕ)) (c : Command) → two_paths make words ≡ Some c → Both c words
unfolding two_paths
two_is make well (p ∷ t ∷ []) c e =
    option_and_then_some _ (named_place_of p) c e (λ place at1 e1.
    option_and_then_some _ (named_path_of t) c e1 (λ to at2 e2.
    done (make place to) c (p ∷ t ∷ []) e2 (well place to (named_place_is p place at1) (named_path_is t to at2))
    (rw (named_other p place at1, path_other t to at2) refl)))
two_is make well words c e = absurd (cc)

clonefset_is : (words : List (List ℕ)) (c : Command) → clonefset words ≡ Some c → Both c words
unfolding clonefset
clonefset_is (f ∷ n ∷ []) c e =
    option_and_then_some _ (fileset_of f) c e (λ fileset at1 e1.
    option_and_then_some _ (fileset_of n) c e1 (λ new_name at2 e2.
    done (Clonefset fileset new_name) c (f ∷ n ∷ []) e2 (fileset_is f fileset at1, fileset_is n new_name at2)
    (rw (fileset_other f fileset at1, fileset_other n new_name at2) refl)))
clonefset_is words c e = absurd (cc)

setquota_is : (words : List (List ℕ)) (c : Command) → setquota words ≡ Some c → Both c words
unfolding setquota
setquota_is (f ∷ k ∷ i ∷ n ∷ b ∷ []) c e =
    option_and_then_some _ (fileset_of f) c e (λ fileset at1 e1.
    option_and_then_some _ (owner_of k i) c e1 (λ who at2 e2.
    option_and_then_some _ (number_below (2 ^ 64) n) c e2 (λ files at3 e3.
    option_and_then_some _ (number_below (2 ^ 64) b) c e3 (λ blocks at4 e4.
    done (Setquota fileset who files blocks) c (f ∷ k ∷ i ∷ n ∷ b ∷ []) e4
    (fileset_is f fileset at1, owner_is k i who at2, below_is (2 ^ 64) n files at3, below_is (2 ^ 64) b blocks at4)
    (rw (fileset_other f fileset at1, kind_other k i who at2, id_other k i who at2, number_other (2 ^ 64) n files at3, number_other (2 ^ 64) b blocks at4) refl)))))
setquota_is words c e = absurd (cc)

showquota_is : (words : List (List ℕ)) (c : Command) → showquota words ≡ Some c → Both c words
unfolding showquota
showquota_is (f ∷ k ∷ i ∷ []) c e =
    option_and_then_some _ (fileset_of f) c e (λ fileset at1 e1.
    option_and_then_some _ (owner_of k i) c e1 (λ who at2 e2.
    done (Showquota fileset who) c (f ∷ k ∷ i ∷ []) e2 (fileset_is f fileset at1, owner_is k i who at2)
    (rw (fileset_other f fileset at1, kind_other k i who at2, id_other k i who at2) refl)))
showquota_is words c e = absurd (cc)

write_is : (words : List (List ℕ)) (c : Command) → write words ≡ Some c → Both c words
unfolding write
write_is (p ∷ o ∷ b ∷ []) c e =
    option_and_then_some _ (place_of p) c e (λ place at1 e1.
    option_and_then_some _ (number_below (2 ^ 64) o) c e1 (λ offset at2 e2.
    option_and_then_some _ (bytes_of b) c e2 (λ bytes at3 e3.
    done (Write place offset bytes) c (p ∷ o ∷ b ∷ []) e3 (place_is p place at1, below_is (2 ^ 64) o offset at2, content_is b bytes at3)
    (rw (place_other p place at1, number_other (2 ^ 64) o offset at2, bytes_other b bytes at3) refl))))
write_is words c e = absurd (cc)

read_is : (words : List (List ℕ)) (c : Command) → read words ≡ Some c → Both c words
unfolding read
read_is (p ∷ o ∷ n ∷ []) c e =
    option_and_then_some _ (place_of p) c e (λ place at1 e1.
    option_and_then_some _ (number_below (2 ^ 64) o) c e1 (λ offset at2 e2.
    option_and_then_some _ (number_within 0 8_192 n) c e2 (λ count at3 e3.
    done (Read place offset count) c (p ∷ o ∷ n ∷ []) e3 (place_is p place at1, below_is (2 ^ 64) o offset at2, (within_is 0 8_192 n count at3).1)
    (rw (place_other p place at1, number_other (2 ^ 64) o offset at2, within_other 0 8_192 n count at3) refl))))
read_is words c e = absurd (cc)

truncate_is : (words : List (List ℕ)) (c : Command) → truncate words ≡ Some c → Both c words
unfolding truncate
truncate_is (p ∷ s ∷ []) c e =
    option_and_then_some _ (place_of p) c e (λ place at1 e1.
    option_and_then_some _ (number_below (2 ^ 64) s) c e1 (λ size at2 e2.
    done (Truncate place size) c (p ∷ s ∷ []) e2 (place_is p place at1, below_is (2 ^ 64) s size at2)
    (rw (place_other p place at1, number_other (2 ^ 64) s size at2) refl)))
truncate_is words c e = absurd (cc)

chfile_is : (words : List (List ℕ)) (c : Command) → chfile words ≡ Some c → Both c words
unfolding chfile
chfile_is (o ∷ s ∷ p ∷ []) c e =
    option_and_then_some _ (passing (bytes_eq o (codes "-L")) o) c e (λ option at1 e1.
    option_and_then_some _ (switch_of s) c e1 (λ logged at2 e2.
    option_and_then_some _ (place_of p) c e2 (λ place at3 e3.
    done (Chfile place logged) c (o ∷ s ∷ p ∷ []) e3 (place_is p place at3)
    (rw (option_other (codes "-L") o option refl at1, switch_other s logged at2, place_other p place at3) refl))))
chfile_is words c e = absurd (cc)

stripe_is : (words : List (List ℕ)) (c : Command) → stripe words ≡ Some c → Both c words
unfolding stripe
stripe_is (o ∷ n ∷ p ∷ []) c e =
    option_and_then_some _ (passing (bytes_eq o (codes "-n")) o) c e (λ option at1 e1.
    option_and_then_some _ (number_within 2 8 n) c e1 (λ width at2 e2.
    option_and_then_some _ (place_of p) c e2 (λ place at3 e3.
    let h = within_is 2 8 n width at2 in
    done (Stripe width place) c (o ∷ n ∷ p ∷ []) e3 (h.0, h.1, place_is p place at3)
    (rw (option_other (codes "-n") o option refl at1, within_other 2 8 n width at2, place_other p place at3) refl))))
stripe_is words c e = absurd (cc)

chvol_is : (words : List (List ℕ)) (c : Command) → chvol words ≡ Some c → Both c words
unfolding chvol
chvol_is (o ∷ v ∷ []) c e =
    option_and_then_some _ (passing (bytes_eq o (codes "-A")) o) c e (λ option at1 e1.
    option_and_then_some _ (number_below (2 ^ 32) v) c e1 (λ vol at2 e2.
    done (ChvolA vol) c (o ∷ v ∷ []) e2 (below_is (2 ^ 32) v vol at2)
    (rw (option_other (codes "-A") o option refl at1, number_other (2 ^ 32) v vol at2) refl)))
chvol_is words c e = absurd (cc)

-- ** An option of `migrate` and its number

-- what is read of an option, and of the words after it
abbrev OptionBoth : List (List ℕ) → Optional → Type 0
OptionBoth words r = IsOptional r.0 × (list_all is_other r.1 ≡ true → list_all is_other words ≡ true)

left_out : (words : List (List ℕ)) (r : Optional) → Some (None, words) ≡ Some r → OptionBoth words r
left_out words r e =
    let P : Optional → Type 0 = OptionBoth words in let none : Optional = (None, words) in subst P (some_same none r e) (tt, λ h. h)

optional_is : (name : List ℕ) (words : List (List ℕ)) (r : Optional) → bytes_eq (codes "->") name ≡ false → optional name words ≡ Some r → OptionBoth words r
unfolding optional
optional_is name [] r other e = left_out [] r e
optional_is name (o ∷ []) r other e = left_out (o ∷ []) r e
optional_is name (o ∷ v ∷ words) r other e = at (bytes_eq o name) refl e
  where
    said : Option Optional
    said = option_map (λ n. (Some n, words)) (number_below (2 ^ 32) v)

    at : (t : Bool) → bytes_eq o name ≡ t → cond t (option_map (λ n. (Some n, words)) (number_below (2 ^ 32) v)) (Some (None, o ∷ v ∷ words)) ≡ Some r → OptionBoth (o ∷ v ∷ words) r
    at true is h =
        map_some (λ n. let q : Optional = (Some n, words) in q) (number_below (2 ^ 32) v) r (OptionBoth (o ∷ v ∷ words) r) h (λ n here last.
        let P : Optional → Type 0 = OptionBoth (o ∷ v ∷ words) in
        subst P last (below_is (2 ^ 32) v n here, λ rest. rw (option_other name o o other (rw is refl), number_other (2 ^ 32) v n here, rest) refl))
    at false is h = left_out (o ∷ v ∷ words) r h

migrate_to_is : (first count from : Option ℕ) → IsOptional first → IsOptional count → IsOptional from
    → (words : List (List ℕ)) (c : Command) → migrate_to first count from words ≡ Some c → Both c words
unfolding migrate_to
migrate_to_is first count from a b d (o ∷ v ∷ p ∷ []) c e =
    option_and_then_some _ (passing (bytes_eq o (codes "-d")) o) c e (λ option at1 e1.
    option_and_then_some _ (number_below (2 ^ 32) v) c e1 (λ to at2 e2.
    option_and_then_some _ (place_of p) c e2 (λ place at3 e3.
    done (Migrate place first count from to) c (o ∷ v ∷ p ∷ []) e3 (place_is p place at3, a, b, d, below_is (2 ^ 32) v to at2)
    (rw (option_other (codes "-d") o option refl at1, number_other (2 ^ 32) v to at2, place_other p place at3) refl))))
migrate_to_is first count from a b d words c e = absurd (cc)

migrate_is : (words : List (List ℕ)) (c : Command) → migrate words ≡ Some c → Both c words
unfolding migrate
migrate_is words c e =
    option_and_then_some _ (optional (codes "-p") words) c e (λ first at1 e1.
    option_and_then_some _ (optional (codes "-n") first.1) c e1 (λ count at2 e2.
    option_and_then_some _ (optional (codes "-s") count.1) c e2 (λ from at3 e3.
    let a = optional_is (codes "-p") words first refl at1 in
    let b = optional_is (codes "-n") first.1 count refl at2 in
    let d = optional_is (codes "-s") count.1 from refl at3 in
    let h = migrate_to_is first.0 count.0 from.0 a.0 b.0 d.0 from.1 c e3 in
    (h.0, a.1 (b.1 (d.1 h.1))))))

-- ** All commands

pub command_is : (v : Verb) (words : List (List ℕ)) (c : Command) → command_of v words ≡ Some c → Both c words
command_is verb.Mkfset words c e = fileset_one Mkfset (λ x h. h) words c e
command_is verb.Rmfset words c e = fileset_one Rmfset (λ x h. h) words c e
command_is verb.Clonefset words c e = clonefset_is words c e
command_is verb.Showfsets words c e = none_is Showfsets c words e tt
command_is verb.Setquota words c e = setquota_is words c e
command_is verb.Showquota words c e = showquota_is words c e
command_is verb.Create words c e = made_is Create (λ place uid gid a b d. (a, b, d)) words c e
command_is verb.Mkdir words c e = made_is Mkdir (λ place uid gid a b d. (a, b, d)) words c e
command_is verb.Write words c e = write_is words c e
command_is verb.Read words c e = read_is words c e
command_is verb.Truncate words c e = truncate_is words c e
command_is verb.Rename words c e = two_is Rename (λ place to a b. (a, b)) words c e
command_is verb.Link words c e = two_is Link (λ place to a b. (a, b)) words c e
command_is verb.Links words c e = place_one Links (λ x h. h) words c e
command_is verb.Unlink words c e = named_one Unlink (λ x h. h) words c e
command_is verb.Rmdir words c e = named_one Rmdir (λ x h. h) words c e
command_is verb.List words c e = place_one ListAt (λ x h. h) words c e
command_is verb.Stat words c e = place_one Stat (λ x h. h) words c e
command_is verb.Fsync words c e = place_one Fsync (λ x h. h) words c e
command_is verb.Chfile words c e = chfile_is words c e
command_is verb.Stripe words c e = stripe_is words c e
command_is verb.Sync words c e = none_is Sync c words e tt
command_is verb.Cancel words c e = none_is Cancel c words e tt
command_is verb.Showfdmn words c e = none_is Showfdmn c words e tt
command_is verb.Showfile words c e = place_one Showfile (λ x h. h) words c e
command_is verb.Migrate words c e = migrate_is words c e
command_is verb.Balance words c e = none_is Balance c words e tt
command_is verb.Addvol words c e = volume_one Addvol (λ x h. h) words c e
command_is verb.Rmvol words c e = volume_one Rmvol (λ x h. h) words c e
command_is verb.Chvol words c e = chvol_is words c e
command_is verb.Switchlog words c e = volume_one Switchlog (λ x h. h) words c e
command_is verb.Upgrade words c e = none_is Upgrade c words e tt
command_is verb.Defragment words c e = place_one Defragment (λ x h. h) words c e
