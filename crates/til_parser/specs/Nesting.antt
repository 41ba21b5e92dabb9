-- How deep types nest: which tokens lead to where a type begins that stands inside so many others, by recursion on the grammar alone.
-- No reader is in it. This project's own.
use Rattle.std.specs.Prelude.{ℕ, zero, suc, codes}
use Rattle.tydi_reading.specs.Forms.{◌⋯◌, Past, Nothing, Never}
use Rattle.tydi_reading.specs.Lists.{EachTo, SeparatedTo}
use Rattle.tydi_reading.specs.Named.{NamedTo}
use Rattle.til_lexer.specs.declared.token.TokenKind.TheVariants as kinds
use Rattle.til_parser.specs.declared.keyword.Argument.{Argument}
use Rattle.til_parser.specs.declared.keyword.Argument.TheVariants as arguments
use Rattle.til_parser.specs.declared.keyword.Keyword.{Keyword}
use Rattle.til_parser.specs.declared.keyword.Keyword.TheVariants as keywords
use Rattle.til_parser.specs.declared.keyword.TypeWord.{TypeWord}
use Rattle.til_parser.specs.declared.keyword.TypeWord.TheVariants as words
use Rattle.til_parser.specs.declared.ltype.AstPart.{AstPart}
use Rattle.til_parser.specs.declared.ltype.AstStream.{AstStream}
use Rattle.til_parser.specs.declared.tree.AstPath.{AstPath}
use Rattle.til_parser.specs.Grammar.{Form, Of, Word, Name, Doc, Path, Given, SpellsType, argument_word, way_word}
use Rattle.til_parser.specs.Grammar.{SpellsPort, SpellsDecl, SpellsNamespace}
use Rattle.til_parser.specs.Tree.{plain, settings_of}
use Rattle.til_parser.specs.Words.{keyword_word, type_word}

-- ---- lists

-- an opening bracket, items with a comma after each, and then what leads on in one more
abbrev pub BracketedTo : {A : Type 0} → (A → Form) → Form → Form
BracketedTo Item To = Of kinds.OpenParen ⋯ SeparatedTo (Of kinds.Comma) Item To

-- an opening brace, items, and then what leads on in one more
abbrev pub BracedTo : {A : Type 0} → (A → Form) → Form → Form
BracedTo Item To = Of kinds.OpenBrace ⋯ EachTo Item To

-- ---- types

-- tokens spell a part
abbrev pub SpellsPart : AstPart → Form
SpellsPart part = Name part.name ⋯ Of kinds.Colon ⋯ SpellsType (plain part.ltype)

-- the name of a part and a colon, and then what leads on in its type
abbrev pub PartTo : Form → Form
PartTo To = Past Name (Of kinds.Colon ⋯ To)

-- a colon, and then what leads on in the value of an argument that is a type
abbrev pub ValueTo : Form → Argument → Form
ValueTo To arguments.Data = Of kinds.Colon ⋯ To
ValueTo To arguments.User = Of kinds.Colon ⋯ To
ValueTo To _ = Never

-- an argument of a Stream
abbrev pub SpellsArgument : AstStream → Argument → Form
SpellsArgument one = Given (SpellsType (plain one.element)) (SpellsType (plain one.user)) (settings_of one)

-- arguments of a Stream with a comma after each, and then what leads on in the value of one more; none of them is written twice
abbrev pub ArgumentsTo : Form → Form
ArgumentsTo To = NamedTo (Of kinds.Comma) SpellsArgument (λ name. Word (argument_word name) ⋯ ValueTo To name)

-- after the word of a type, what leads on in a type inside it
abbrev pub AfterTo : Form → TypeWord → Form
AfterTo To words.Group = BracketedTo SpellsPart (PartTo To)
AfterTo To words.Union = BracketedTo SpellsPart (PartTo To)
AfterTo To words.Stream = Of kinds.OpenParen ⋯ ArgumentsTo To
AfterTo To _ = Never

-- the word of a type, and then what leads on in a type inside it
abbrev pub InsideTo : Form → Form
InsideTo To ts = (word : TypeWord) × ((Word (type_word word) ⋯ AfterTo To word) ts)

-- from where a type begins to where one begins that stands inside so many others
unfoldable pub TypeTo : ℕ → Form
TypeTo zero = Nothing
TypeTo (suc levels) = InsideTo (TypeTo levels)

-- ---- declarations

-- the front of a port, and then what leads on in its type
abbrev pub PortTo : ℕ → Form
PortTo levels = Past Doc (Past Name (Of kinds.Colon ⋯ Past (λ inward. Word (way_word inward)) (TypeTo levels)))

-- the front of a list of ports, and then what leads on in one of them
abbrev pub PortsTo : ℕ → Form
PortsTo levels = BracketedTo SpellsPort (PortTo levels)

-- after a keyword and a name, what leads on: in a type, or in ports
abbrev pub RestTo : ℕ → Keyword → Form
RestTo levels keywords.Type = Of kinds.Equals ⋯ TypeTo levels
RestTo levels keywords.Interface = Of kinds.Equals ⋯ PortsTo levels
RestTo levels keywords.Streamlet = Of kinds.Equals ⋯ PortsTo levels
RestTo levels _ = Never

-- a keyword and a name, and then what leads on
abbrev pub KindTo : ℕ → Form
KindTo levels ts = (begun : Keyword) × ((Word (keyword_word begun) ⋯ Past Name (RestTo levels begun)) ts)

-- the front of a declaration, and then what leads on in it
abbrev pub DeclTo : ℕ → Form
DeclTo levels = Past Doc (KindTo levels)

-- the front of a namespace, and then what leads on in one of its declarations
abbrev pub NamespaceTo : ℕ → Form
NamespaceTo levels = Past Doc (Word (codes "namespace") ⋯ Past (λ (path : AstPath). Path path.names) (BracedTo SpellsDecl (DeclTo levels)))

-- from the front of a project to where a type begins that stands inside so many others
abbrev pub ProjectTo : ℕ → Form
ProjectTo levels = EachTo SpellsNamespace (NamespaceTo levels)
