-- The words that decide the form after them. This project's own.
use Rattle.std.specs.Prelude.{ℕ, List, [], ◌∷◌, Option, None, if◌then◌else◌, codes}
use Rattle.tydi_reading.specs.Tables.{entry_of}
use Rattle.til_lexer.specs.declared.token.TokenKind.TheVariants as kinds
use Rattle.til_parser.specs.declared.keyword.Argument.{Argument}
use Rattle.til_parser.specs.declared.keyword.Argument.TheVariants as arguments
use Rattle.til_parser.specs.declared.keyword.Keyword.{Keyword}
use Rattle.til_parser.specs.declared.keyword.Keyword.TheVariants as keywords
use Rattle.til_parser.specs.declared.keyword.TypeWord.{TypeWord}
use Rattle.til_parser.specs.declared.keyword.TypeWord.TheVariants as words
use Rattle.til_parser.specs.declared.ltype.AstSync.{AstSync}
use Rattle.til_parser.specs.declared.ltype.AstSync.TheVariants as syncs
use Rattle.til_parser.specs.Grammar.{argument_word, sync_word}
use Rattle.til_parser.specs.Lexemes.{Lexeme}
use Rattle.til_parser.specs.Reading.{same_kind}

-- the word of a keyword
abbrev pub keyword_word : Keyword → List ℕ
keyword_word keywords.Type = codes "type"
keyword_word keywords.Interface = codes "interface"
keyword_word keywords.Streamlet = codes "streamlet"
keyword_word keywords.Impl = codes "impl"
keyword_word keywords.Test = codes "test"

abbrev pub all_keywords : List Keyword
all_keywords = keywords.Type ∷ keywords.Interface ∷ keywords.Streamlet ∷ keywords.Impl ∷ keywords.Test ∷ []

-- the word with which a type begins
abbrev pub type_word : TypeWord → List ℕ
type_word words.Null = codes "Null"
type_word words.Bits = codes "Bits"
type_word words.Group = codes "Group"
type_word words.Union = codes "Union"
type_word words.Stream = codes "Stream"

abbrev pub all_type_words : List TypeWord
all_type_words = words.Null ∷ words.Bits ∷ words.Group ∷ words.Union ∷ words.Stream ∷ []

abbrev pub all_syncs : List AstSync
all_syncs = syncs.Sync ∷ syncs.Flatten ∷ syncs.Desync ∷ syncs.FlatDesync ∷ []

abbrev pub all_arguments : List Argument
all_arguments = arguments.Data ∷ arguments.Throughput ∷ arguments.Dimensionality ∷ arguments.Synchronicity ∷ arguments.Complexity
    ∷ arguments.Direction ∷ arguments.User ∷ arguments.Keep ∷ []

-- the keyword that a word is
abbrev pub keyword_of : List ℕ → Option Keyword
keyword_of = entry_of keyword_word all_keywords

-- the word of a type that a word is
abbrev pub type_word_of : List ℕ → Option TypeWord
type_word_of = entry_of type_word all_type_words

-- the synchronicity that a word is
abbrev pub sync_of : List ℕ → Option AstSync
sync_of = entry_of sync_word all_syncs

-- the argument that a word names
abbrev pub argument_of : List ℕ → Option Argument
argument_of = entry_of argument_word all_arguments

-- the entry of a table for a token that is a word
abbrev pub word_at : {K : Type 0} → (List ℕ → Option K) → Lexeme → Option K
word_at table lexeme = if same_kind lexeme.kind kinds.Word then table lexeme.spelling else None

-- the word of a type that a token is
abbrev pub type_word_at : Lexeme → Option TypeWord
type_word_at = word_at type_word_of

-- the argument that a token names
abbrev pub argument_at : Lexeme → Option Argument
argument_at = word_at argument_of
