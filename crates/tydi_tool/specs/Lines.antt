-- The lines of a survey (this project's own).
use Rattle.std.specs.Prelude.{ℕ, List, [], ◌∷◌, ◌++◌, codes, decimal}
use Rattle.tydi_base.specs.Path.{path_text}
use Rattle.physical_stream.specs.Rules.{number_of_rule, name_of_rule}
use Rattle.physical_stream.specs.declared.head.Head.{Head}
use Rattle.physical_stream.specs.declared.rule.Rule.{Rule}

abbrev pub offence_line : ℕ → List (List ℕ) → Rule → List ℕ
offence_line cycle path rule =
    codes "offence cycle " ++ decimal cycle ++ codes " stream " ++ path_text path ++ codes " rule " ++ decimal (number_of_rule rule) ++ codes " " ++ name_of_rule rule ++ codes "\n"

abbrev pub pending_line : List (List ℕ) → List ℕ
pending_line path = codes "unfinished stream " ++ path_text path ++ codes " pending\n"

abbrev pub unclosed_line : List (List ℕ) → ℕ → List ℕ
unclosed_line path open_at = codes "unfinished stream " ++ path_text path ++ codes " open " ++ decimal open_at ++ codes "\n"

abbrev pub counts_line : List (List ℕ) → ℕ → ℕ → List ℕ
counts_line path transfers packets = codes "stream " ++ path_text path ++ codes " transfers " ++ decimal transfers ++ codes " packets " ++ decimal packets ++ codes "\n"

-- the streams of these heads, each with its transfers and its packets
abbrev pub counts_text : List Head → List (ℕ × ℕ) → List ℕ
counts_text [] counts = []
counts_text (head ∷ heads) [] = []
counts_text (head ∷ heads) (count ∷ counts) = counts_line head.path count.0 count.1 ++ counts_text heads counts

abbrev pub legal_text : List Head → List (ℕ × ℕ) → List ℕ
legal_text heads counts = codes "legal\n" ++ counts_text heads counts
