use Rattle.std.proofs.Common.{Result, refl, sym, subst}
use Rattle.logical_types.specs.Tree.{plain, plain_of_stream, settings_of}
use Rattle.type_split.specs.declared.fault.SplitFault.{SplitFault}
use Rattle.type_split.specs.Streams.{Blames, PlainSplit, clash_of, plain_split}
use Rattle.tydi_tool.specs.Reading.{IsRefusedBy, refusal_in}
use Rattle.tydi_tool.specs.Refusals.{Refusal}
use Rattle.tydi_tool.proofs.PortLemmas.{few-of, split_unless-clash, split_unless-none}
use Rattle.tydi_tool.proofs.ports.split_apart.Goals as goal

pub split_type-requires-clause-few : goal.split_type-requires-clause-few
split_type-requires-clause-few c = few-of (plain_of_stream c.args.ltype.now) c.requires

pub returns-in-Ok-clause-split : goal.returns-in-Ok-clause-split
returns-in-Ok-clause-split c = split_unless-none (plain_of_stream c.args.ltype.now) (plain_split c.in-Ok.split) c.in-Ok.ensures.split c.in-Ok.ensures.apart

pub returns-in-Ok-clause-whole : goal.returns-in-Ok-clause-whole
returns-in-Ok-clause-whole c = record {
  ltype = plain_of_stream c.args.ltype.now;
  port = record { element = plain c.args.ltype.now.element; user = plain c.args.ltype.now.user; settings = settings_of c.args.ltype.now; is = refl };
  valid = c.requires.valid;
  few = c.requires.few;
  apart = c.in-Ok.ensures.apart;
  is = c.in-Ok.ensures.split;
}

pub returns-in-Err-NameClash-clause-split : goal.returns-in-Err-NameClash-clause-split
returns-in-Err-NameClash-clause-split c =
    let ltype = plain_of_stream c.args.ltype.now in
    let clash = subst (λ (fault : SplitFault). Blames (clash_of ltype) fault) c.in-Err-NameClash.field-0-is c.in-Err-NameClash.ensures.clash in
    subst (λ (w : Result PlainSplit Refusal). IsRefusedBy (refusal_in w) c.refused.result) (sym (split_unless-clash ltype c.in-Err-NameClash.path clash)) c.refused.ensures
