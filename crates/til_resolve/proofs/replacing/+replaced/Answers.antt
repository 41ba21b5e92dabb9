use Rattle.til_resolve.specs.Declarations.{declaration}
use Rattle.til_resolve.specs.Scope.{declarations_of}
use Rattle.til_resolve.specs.SharedTypes.{type_named}
use Rattle.til_resolve.proofs.SharedTypeLemmas.{made-more, made-Group, made-Union}
use Rattle.til_resolve.proofs.replacing.+replaced.Goals as goal

pub replaced_parts-parts-preserved : goal.replaced_parts-parts-preserved
replaced_parts-parts-preserved k c =
    let all = declarations_of c.args.scope.now.declared in
    made-more (type_named all c.args.table.now (declaration all c.args.number).space) c.args.parts.now c.parts.part-index c.part-item.result c.parts.made c.push.new.self
    (record { name = c.in_ok-name.name; ltype = c.in_ok-ltype.ltype }) c.parts-test.true c.part-item.is c.in_ok-push.ensures.ok c.in_ok-name.ensures c.in_ok-ltype.ensures c.parts.invariant

pub replaced_type-returns-in_ok-new-in-Group : goal.replaced_type-returns-in_ok-new-in-Group
replaced_type-returns-in_ok-new-in-Group k c =
    let all = declarations_of c.args.scope.now.declared in
    made-Group (type_named all c.args.table.now (declaration all c.args.number).space) c.args.ltype.now c.in-Group.parts c.as_slice.result.now c.in_ok-parts-in-Group.parts
    c.in_ok-new-in-Group.field-0 c.in-Group.is c.as_slice.ensures c.in_ok-parts-in-Group.ensures c.in_ok-new-in-Group.ensures

pub replaced_type-returns-in_ok-new-in-Union : goal.replaced_type-returns-in_ok-new-in-Union
replaced_type-returns-in_ok-new-in-Union k c =
    let all = declarations_of c.args.scope.now.declared in
    made-Union (type_named all c.args.table.now (declaration all c.args.number).space) c.args.ltype.now c.in-Union.parts c.as_slice-in-Union.result.now c.in_ok-parts-in-Union.parts
    c.in_ok-new-in-Union.field-0 c.in-Union.is c.as_slice-in-Union.ensures c.in_ok-parts-in-Union.ensures c.in_ok-new-in-Union.ensures
