-- A text says one command.
use Rattle.std.proofs.Common.{◌≡◌, ℕ, Some, unwrap_or, List, [], ◌∷◌, sym, ap, subst, ◌∙◌}
use Rattle.script_text.specs.fileset_values.declared.command.Command.{Command}
use Rattle.script_text.specs.command_text.Commands.{command_of, verb_of}
use Rattle.script_text.specs.command_text.Texts.{command_text}
use Rattle.script_text.specs.command_text.WellFormed.{IsWellFormed, Says}
use Rattle.script_text.proofs.OfCommandText.CommandLemmas.{printed_says}

some_one : {A : Type 0} (x y : A) → Some x ≡ Some y → x ≡ y
some_one x y e = ap (λ o. unwrap_or o x) e

head_one : {A : Type 0} (x y : A) (xs ys : List A) → x ∷ xs ≡ y ∷ ys → x ≡ y
head_one {A} x y xs ys e = ap first e
  where
    first : List A → A
    first [] = x
    first (z ∷ zs) = z

tail_one : {A : Type 0} (x y : A) (xs ys : List A) → x ∷ xs ≡ y ∷ ys → xs ≡ ys
tail_one {A} x y xs ys e = ap rest e
  where
    rest : List A → List A
    rest [] = []
    rest (z ∷ zs) = zs

says_one : (text : List ℕ) (c d : Command) → Says text c → Says text d → c ≡ d
says_one text c d h k =
    let words : h.first ∷ h.behind ≡ k.first ∷ k.behind = sym h.words ∙ k.words in
    let first : h.first ≡ k.first = head_one h.first k.first h.behind k.behind words in
    let behind : h.behind ≡ k.behind = tail_one h.first k.first h.behind k.behind words in
    let named : h.verb ≡ k.verb = some_one h.verb k.verb (sym h.named ∙ ap verb_of first ∙ k.named) in
    some_one c d (sym h.said ∙ ap (λ v. command_of v h.behind) named ∙ ap (command_of k.verb) behind ∙ k.said)

pub one_command : (c d : Command) → IsWellFormed c → IsWellFormed d → command_text c ≡ command_text d → c ≡ d
one_command c d well other e =
    let P : List ℕ → Type 0 = λ text. Says text d in
    says_one (command_text c) c d (printed_says c well) (subst P (sym e) (printed_says d other))
