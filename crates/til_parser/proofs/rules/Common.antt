-- The names that most of these proofs cite, passed on from one place. Declares nothing.
pub use Rattle.std.proofs.Common.{◌≡◌, ◌⊎◌, inl, inr, ⊎_elim, false, List, ◌++◌, Option, Some, None, refl, sym, subst, ℕ, Bool, [], ◌∷◌, codes, suc, ◌+◌, ◌^◌, ◌<◌, ◌≤◌, nat_lt}
pub use Rattle.std.proofs.Common.{true, cond, ◌&&◌, ◌||◌, length, drop, ap, ◌∙◌, bytes_eq, arith, length-append, ◌≢◌, zero, All, Err, Ok, option_map, option_and_then, T, ◌↔◌}
pub use Rattle.std.proofs.Common.{true≢false, ◌-◌, rules, ◌*◌}
pub use Rattle.std.proofs.lemmas.{Grind.common_steps, List.append-nil, List.Elements.All-head, List.Elements.All-nil, List.Elements.All-cons, List.Elements.All-append}
pub use Rattle.std.proofs.lemmas.{Option.none-some, Option.same_Some, Option.cond_some, Slice.Eq.bytes_eq-Decides}
pub use Rattle.std.specs.{List.list_all, List.Contains, Option.is_some, Option.unwrap_or, Prelude.not}
pub use Rattle.til_lexer.specs.{Places.start, Spelling.HasForm, Spelling.IsBetween, declared.token.TokenKind.TokenKind}
pub use Rattle.til_parser.specs.Grammar.{Form, Of, Name, Path, Quoted, Braced, SpellsEnd, Second, SpellsStmt, SpellsBody, Word, SpellsPort, SpellsPorts, SpellsStreamletPorts}
pub use Rattle.til_parser.specs.Grammar.{SpellsKind, StreamletWithin, PortsWithin, KindWithin, way_word, One, Commas, Bracketed, IsNamed, IsWhole, Whole, IsNumber, Number}
pub use Rattle.til_parser.specs.Grammar.{IsMarked, Doc, Level, sync_word, Spells, IsWithin, SpellsDecl, SpellsNamespace, DeclsWithin, IsDefault, SpellsType, argument_word}
pub use Rattle.til_parser.specs.Grammar.{direction_word, truth_word, IsWord, SpellsParts}
pub use Rattle.til_parser.specs.Lexemes.{Lexeme, IsFormed, between_marks, lexemes_of}
pub use Rattle.til_parser.specs.Nesting.{PortTo, PortsTo, RestTo, BracketedTo, BracedTo, ProjectTo, KindTo, DeclTo, NamespaceTo, ValueTo, SpellsArgument, ArgumentsTo, SpellsPart}
pub use Rattle.til_parser.specs.Nesting.{PartTo, AfterTo, InsideTo}
unfoldable pub use Rattle.til_parser.specs.Nesting.{TypeTo}
pub use Rattle.til_parser.specs.Numbers.{numerator_of, denominator_of}
unfoldable pub use Rattle.til_parser.specs.Numbers.{whole_of, lowest, divisor_from}
pub use Rattle.til_parser.specs.ReadDecls.{keyword, kind_of, project_of}
unfoldable pub use Rattle.til_parser.specs.ReadDecls.{second, end, link_from, instance_of, stmt, body, port, streamlet_ports, impl_kind, test_kind, braced, namespace, project}
unfoldable pub use Rattle.til_parser.specs.ReadDecls.{named_kind, decl}
pub use Rattle.til_parser.specs.ReadTypes.{name, one_more, bracketed, name_at, whole, number, marked, quoted, either_word, sync, Value, field, put, is_given}
pub use Rattle.til_parser.specs.ReadTypes.{none_given, filled, stream_of, value_of, value, type_after}
unfoldable pub use Rattle.til_parser.specs.ReadTypes.{bracketed_steps, doc, path, stream, bits, part, type_with, ltype}
pub use Rattle.til_parser.specs.Reading.{is_kind, expect, is_word, begins_type}
unfoldable pub use Rattle.til_parser.specs.Reading.{same_kind, token}
pub use Rattle.til_parser.specs.Tree.{plain, settings_of, Ltype, null, depth, depth_of_parts}
pub use Rattle.til_parser.specs.Words.{keyword_word, all_keywords, keyword_of, all_syncs, sync_of, all_arguments, argument_of, argument_at, word_at, type_word, all_type_words}
pub use Rattle.til_parser.specs.Words.{type_word_of, type_word_at}
pub use Rattle.til_parser.specs.declared.{arguments.Arguments.Arguments, keyword.Argument.Argument, keyword.Keyword.Keyword, ltype.AstStream.AstStream}
pub use Rattle.til_parser.specs.declared.{ltype.AstStream.roll-AstStream, ltype.AstType.AstType, tree.Ast.Ast, tree.AstKind.AstKind, tree.AstName.AstName}
pub use Rattle.til_parser.specs.declared.{tree.AstNamespace.AstNamespace, tree.AstPath.AstPath}
pub use Rattle.tydi_base.specs.{Name.is_name, Name.name_of, Name.has_name_form, declared.place.Place.Place}
pub use Rattle.tydi_reading.proofs.ContainsLemmas.{same_or_not, has-Contains, are_apart-apart, has, Contains-none, Contains-first}
pub use Rattle.tydi_reading.proofs.FormLemmas.{front-tells, with_ends, regroup, ungroup, follows-front, joins}
pub use Rattle.tydi_reading.proofs.LoopLemmas.{mapped-less, repeated-all, took-both, reads-less, adds-most}
pub use Rattle.tydi_reading.proofs.NamedSteps.{Fields, added-grows}
pub use Rattle.tydi_reading.proofs.RepeatedRule.{Begins, begins-repeats, each_unit, Repeats, repeated-rule, begins-filled, begins-apart}
pub use Rattle.tydi_reading.proofs.Rule.{as_rule, as_flat, of_flat, flat, flat_skip, flat_close, both, flat_parted, viewed, Made, either-rule, optional-rule, front-marked}
pub use Rattle.tydi_reading.proofs.Rule.{respelled, shrinks, skip, parted, made-rule, close, mark-tells, fewer, Mark}
pub use Rattle.tydi_reading.proofs.StepRules.{Chained, chain-rule, leaf-rule, read-rule, Only, All-one, pure-rule, same-rule}
pub use Rattle.tydi_reading.proofs.TableLemmas.{entry-word, entry-none}
pub use Rattle.tydi_reading.specs.Calls.{DoesRead, DoesTell, DoesStep}
pub use Rattle.tydi_reading.specs.Forms.{Never, Anything, ◌⋯◌, Past, GoesOn, Nothing}
pub use Rattle.tydi_reading.specs.Lists.{Each, EachIs}
unfoldable pub use Rattle.tydi_reading.specs.Lists.{separated, repeated, joined, repeated_turn, steps, steps_turn, separator_turn, mark}
pub use Rattle.tydi_reading.specs.Named.{AreApart, NeverGrows}
unfoldable pub use Rattle.tydi_reading.specs.Named.{argument, named}
pub use Rattle.tydi_reading.specs.Reading.{Shrinks, tells, choose, Reader, ◌>>◌, Outcome, took, stopped, and_then, meant, ◌<&>◌, ◌<$>◌, leaf, led, unfit, Reads}
unfoldable pub use Rattle.tydi_reading.specs.Reading.{loop}
pub use Rattle.tydi_reading.specs.Rules.{IsRule}
pub use Rattle.tydi_reading.specs.Tables.{entry_of}
