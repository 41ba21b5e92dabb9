-- The arguments of a Stream: what is given of each, the Stream that is made of it, and their rule.
use Rattle.til_parser.proofs.rules.Common.{◌≡◌, ◌⊎◌, inl, inr, true, false, Option, Some, None, option_map, refl, sym, ap, ◌∙◌, ⊎_elim, ◌∷◌, subst, none-some, same_Some, Contains}
use Rattle.til_parser.proofs.rules.Common.{unwrap_or, AreApart, NeverGrows, same_or_not, has-Contains, are_apart-apart, has, Fields, added-grows, Arguments, Argument, AstType}
use Rattle.til_parser.proofs.rules.Common.{AstStream, roll-AstStream, Form, IsDefault, SpellsType, Of, Word, Bracketed, argument_word, direction_word, truth_word, lowest}
use Rattle.til_parser.proofs.rules.Common.{divisor_from, Value, field, put, is_given, none_given, filled, stream_of, value_of, stream, plain, settings_of, all_arguments}
use Rattle.til_parser.proofs.rules.Common.{argument_of, argument_at, Never, Anything, ◌⋯◌, Reader, ◌>>◌, IsRule, as_rule, as_flat, of_flat, fewer, skip, flat_skip, close}
use Rattle.til_parser.proofs.rules.Common.{mark-tells, Lexeme, IsFormed, ValueTo, SpellsArgument, ArgumentsTo, same_kind, is_kind, expect, ◌↔◌, arith}
use Rattle.til_parser.specs.contracts.keyword.Argument.{the_type}
use Rattle.til_parser.specs.declared.keyword.Argument.TheVariants as arguments
use Rattle.til_parser.specs.declared.ltype.AstType.TheVariants as types
use Rattle.til_parser.specs.Grammar as grammar
use Rattle.til_parser.proofs.PlainLemmas.{plain-Null, plain-null}
use Rattle.tydi_reading.proofs.{NamedRule.Defaults, NamedRule.named-rule, NamedSteps.Between}
use Rattle.tydi_reading.proofs.NamedSteps as steps
use Rattle.til_lexer.specs.declared.token.TokenKind.TheVariants as kinds
use Rattle.til_parser.specs.ReadTypes as read
use Rattle.til_parser.proofs.rules.LeafRules.{PathNext, number-rule, whole-rule, sync-rule, either_word-rule}
use Rattle.til_parser.proofs.rules.LevelRules.{level-rule}
use Rattle.til_parser.proofs.rules.TokenRules.{made, NoneNext, kind-not, colon, open_paren, close_paren, comma, word_at-word, word_at-made, word_at-there, word_at-back}
use Rattle.til_parser.specs.declared.refusal.TooDeep.{TooDeep}

-- ---- the names

abbrev pub one_or_two : (a b : Argument) → (a ≡ b) ⊎ (a ≡ b → ⊥)
one_or_two = same_or_not the_type tt

pub all_arguments-all : (name : Argument) → Contains all_arguments name
all_arguments-all name =
    has-Contains one_or_two all_arguments name (elim name as (λ a. has one_or_two all_arguments a ≡ true) [ arguments.Data ↦ refl | _ ↦ refl ])

pub all_arguments-apart : AreApart all_arguments
all_arguments-apart = are_apart-apart one_or_two all_arguments refl

-- ---- the given arguments

-- the value that a Stream has for an argument
abbrev pub value : AstStream → (name : Argument) → Value name
value one arguments.Data = one.element
value one arguments.Throughput = one.throughput
value one arguments.Dimensionality = one.dims
value one arguments.Synchronicity = one.sync
value one arguments.Complexity = one.level
value one arguments.Direction = one.reverse
value one arguments.User = one.user
value one arguments.Keep = one.keep

pub field-put_other : (a b : Argument) (x : Value b) (given : Arguments) → (b ≡ a → ⊥) → field a (put b x given) ≡ field a given
field-put_other arguments.Data arguments.Data x given apart = absurd (apart refl)
field-put_other _ arguments.Data x given apart = refl
field-put_other _ _ x given apart = first_of (cc, grind arith)

-- ---- the Stream of what is given

abbrev Default : AstStream → Argument → Type 0
Default one = IsDefault (plain one.user) (settings_of one)

-- the value of a Stream is given, or it is the default and not given
abbrev IsGivenOr : AstStream → Arguments → Argument → Type 0
IsGivenOr one given a = (field a given ≡ Some (value one a)) ⊎ ((field a given ≡ None) × Default one a)

-- the Stream of Null and of all defaults
abbrev pub least : AstStream
least = filled types.Null none_given

-- an argument has its default where its value is that of the least Stream; the data type has none
pub default-is : (one : AstStream) (a : Argument) → (a ≡ arguments.Data → ⊥) → (value one a ≡ value least a) ↔ Default one a
unfolding lowest divisor_from
default-is one arguments.Data other = absurd (other refl)
default-is one arguments.User other = (λ e. ap plain e ∙ plain-Null, plain-null one.user)
default-is one _ other = (λ e. e, λ d. d)

or_default : {A : Type 0} (o : Option A) (default : A) {IsIt : Type 0} → (unwrap_or o default ≡ default → IsIt)
    → (o ≡ Some (unwrap_or o default)) ⊎ ((o ≡ None) × IsIt)
or_default None default to = inr (refl, to refl)
or_default (Some x) default to = inl refl

given_or : (given : Arguments) (element : AstType) → given.element ≡ Some element → (a : Argument) → IsGivenOr (filled element given) given a
given_or given element is arguments.Data = inl is
given_or given element is a = or_default (field a given) (value least a) (default-is (filled element given) a (λ e. absurd cc)).0

pub made-is : (given : Arguments) (one : AstStream) → stream_of given ≡ Some one → (a : Argument) → IsGivenOr one given a
made-is given one is a = of_element given.element refl is
  where
    of_element : (o : Option AstType) → given.element ≡ o → option_map (λ element. filled element given) o ≡ Some one → IsGivenOr one given a
    of_element None was is = absurd (none-some one is)
    of_element (Some element) was is = subst (λ s. IsGivenOr s given a) (same_Some _ one is) (given_or given element was a)

given_value : (given : Arguments) (one : AstStream) (a : Argument) → IsGivenOr one given a → value (filled one.element given) a ≡ value one a
given_value given one arguments.Data or = refl
given_value given one a (inl is) = ap (λ o. unwrap_or o (value least a)) is
given_value given one a (inr h) = ap (λ o. unwrap_or o (value least a)) h.0 ∙ sym ((default-is one a (λ e. absurd cc)).1 h.1)

pub is-made : (given : Arguments) (one : AstStream) → ((a : Argument) → IsGivenOr one given a) → stream_of given ≡ Some one
is-made given one each =
    let element : given.element ≡ Some one.element = ⊎_elim (λ e. e) (λ d. absurd d.1) (each arguments.Data) in
    let same : (a : Argument) → value (filled one.element given) a ≡ value one a = λ a. given_value given one a (each a) in
    ap (option_map (λ element. filled element given)) element ∙ (λ i. Some (roll-AstStream (record {
      element = one.element;
      throughput = same arguments.Throughput i;
      dims = same arguments.Dimensionality i;
      sync = same arguments.Synchronicity i;
      level = same arguments.Complexity i;
      reverse = same arguments.Direction i;
      user = same arguments.User i;
      keep = same arguments.Keep i;
    })))

abbrev pub fields : Fields Argument Arguments AstStream
fields = record {
  Value = Value;
  field = field;
  put = put;
  is_given = is_given;
  none = none_given;
  made = stream_of;
  value = value;
  IsDefault = Default;
  all = all_arguments;
  each = all_arguments-all;
  one_or_two = one_or_two;
  field-put = elim [ arguments.Data ↦ λ x given. refl | _ ↦ λ x given. refl ];
  field-put_other = field-put_other;
  field-none = elim [ arguments.Data ↦ refl | _ ↦ refl ];
  is_given-is = elim [ arguments.Data ↦ λ given. refl | _ ↦ λ given. refl ];
  made-is = made-is;
  is-made = is-made;
  full = λ given all. elim given.element as (λ o. (o ≡ None → ⊥) → option_map (λ element. filled element given) o ≡ None → ⊥) [
    | None ↦ λ some is. some refl
    | Some x ↦ λ some is. none-some _ (sym is)
  ] (all arguments.Data);
}

-- a type, and the arguments of a Stream, as the grammar has them
abbrev pub S : AstType → Form
S x = SpellsType (plain x)

abbrev pub ArgumentsOf : AstStream → Form
ArgumentsOf one = grammar.Arguments (S one.element) (S one.user) (plain one.user) (settings_of one)

each_argument : (name : Argument) → argument_of (argument_word name) ≡ Some name
each_argument arguments.Data = refl
each_argument _ = refl

-- the value of an argument, as a Stream with it has it
abbrev Spelled : (name : Argument) → Value name → Form
Spelled name x = let given = put name x none_given in let one = filled (unwrap_or given.element types.Null) given in
    grammar.Held (S one.element) (S one.user) (settings_of one) name

-- the tokens that may follow the value of an argument: no `::`, with which a path goes on, and no point, with which a level does
abbrev ValueNext : Form
ValueNext rest = PathNext rest × NoneNext kinds.Point rest

module _ (inner : Reader TooDeep Lexeme AstType) (W : AstType → Type 0) (D : Form) (rule : IsRule TooDeep IsFormed inner S (λ _. PathNext) W D)
    (null_within : (x : AstType) → W x → W types.Null) where
  -- the types in a value are within their bounds
  abbrev ValueWithin : (name : Argument) → Value name → Type 0
  ValueWithin arguments.Data x = W x
  ValueWithin arguments.User x = W x
  ValueWithin _ x = Unit {0}

  -- a value that holds no type
  no_type : {A : Type 0} {p : Reader TooDeep Lexeme A} {P : A → Form} → IsRule TooDeep IsFormed p P (λ _. Anything) (λ _. Unit {0}) Never
      → IsRule TooDeep IsFormed (expect kinds.Colon >> p) (λ x. Of kinds.Colon ⋯ P x) (λ _. ValueNext) (λ _. Unit {0}) Never
  no_type one = fewer (of_flat (flat_skip colon (as_flat one))) (λ _. ValueNext) (λ x rest next. tt)

  value-rule : (name : Argument)
      → IsRule TooDeep IsFormed (expect kinds.Colon >> value_of inner name) (λ x. Of kinds.Colon ⋯ Spelled name x) (λ _. ValueNext) (ValueWithin name) (ValueTo D name)
  value-rule arguments.Data = fewer (skip colon (as_rule rule)) (λ _. ValueNext) (λ x rest next. next.0)
  value-rule arguments.Throughput = no_type number-rule
  value-rule arguments.Dimensionality = no_type whole-rule
  value-rule arguments.Synchronicity = no_type sync-rule
  value-rule arguments.Complexity = fewer (of_flat (flat_skip colon (as_flat level-rule))) (λ _. ValueNext) (λ x rest next. next.1)
  value-rule arguments.Direction = no_type (either_word-rule direction_word refl refl)
  value-rule arguments.User = fewer (skip colon (as_rule rule)) (λ _. ValueNext) (λ x rest next. next.0)
  value-rule arguments.Keep = no_type (either_word-rule truth_word refl refl)

  abbrev values : steps.Arguments TooDeep IsFormed fields
  values = record {
    name = argument_at;
    Name = λ name. Word (argument_word name);
    there = word_at-there argument_word all_arguments each_argument;
    back = word_at-back argument_word all_arguments each_argument;
    thing = λ name. made kinds.Word (argument_word name);
    good = elim [ arguments.Data ↦ refl | _ ↦ refl ];
    named = word_at-made argument_word all_arguments each_argument;
    read = λ name. expect kinds.Colon >> value_of inner name;
    Spelled = λ name x. Of kinds.Colon ⋯ Spelled name x;
    Next = ValueNext;
    Within = ValueWithin;
    Unfit = ValueTo D;
    Argument = SpellsArgument;
    to_argument = λ one. elim [ arguments.Data ↦ λ ts s. s | _ ↦ λ ts s. s ];
    of_argument = λ one. elim [ arguments.Data ↦ λ ts s. s | _ ↦ λ ts s. s ];
    added = read.value inner;
    added-is = elim [ arguments.Data ↦ λ given ts. refl | _ ↦ λ given ts. refl ];
    rule = value-rule;
  }

  between : Between IsFormed (is_kind kinds.CloseParen) false (is_kind kinds.Comma) (Of kinds.Comma) argument_at ValueNext
  unfolding same_kind
  between = record {
    mark = comma.is;
    starts = λ name t is. rw ((word_at-word argument_word all_arguments each_argument t name is).kind) refl;
    before_end = λ rest is. (kind-not kinds.CloseParen kinds.DoubleColon refl rest is, kind-not kinds.CloseParen kinds.Point refl rest is);
    before_separator = λ t rest is. (kind-not kinds.Comma kinds.DoubleColon refl (t ∷ rest) is, kind-not kinds.Comma kinds.Point refl (t ∷ rest) is);
    apart = λ rest is. kind-not kinds.CloseParen kinds.Comma refl rest is;
  }

  pub value-grows : NeverGrows (read.value inner)
  value-grows = added-grows IsFormed fields values

  defaults : Defaults IsFormed fields values (is_kind kinds.CloseParen) false (is_kind kinds.Comma) (Of kinds.Comma) between
  defaults one or arguments.Data default = absurd default
  defaults one or arguments.User default = subst W (sym (plain-null one.user default))
      (⊎_elim (null_within one.element) (λ none. absurd none) (or arguments.Data))
  defaults one or _ default = tt

  pub stream-rule : IsRule TooDeep IsFormed (stream inner) (λ one. Bracketed (ArgumentsOf one)) (λ _. Anything)
      (λ one. (name : Argument) → ValueWithin name (value one name)) (Of kinds.OpenParen ⋯ ArgumentsTo D)
  unfolding stream
  stream-rule =
      (skip open_paren (close
      (as_rule (named-rule IsFormed fields values (is_kind kinds.CloseParen) false (is_kind kinds.Comma) (Of kinds.Comma) between defaults))
      close_paren (λ one. mark-tells close_paren))).is
