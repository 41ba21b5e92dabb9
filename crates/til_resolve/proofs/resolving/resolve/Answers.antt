use Rattle.til_resolve.specs.Scope.{declarations_of}
use Rattle.til_resolve.proofs.LastLemmas.{sound_result, project_result, fault_result}
use Rattle.til_resolve.proofs.resolving.resolve.Goals as goal

pub returns : goal.returns
returns c = record {
  sound = sound_result c.args.ast.now (declarations_of c.in_ok-scope.scope.declared) c.in_ok-scope.ensures c.project_or_fault.result c.project_or_fault.ensures.sound;
  project = project_result c.args.ast.now (declarations_of c.in_ok-scope.scope.declared) c.in_ok-scope.ensures c.project_or_fault.result
      c.project_or_fault.ensures.streamlets c.project_or_fault.ensures.tests;
  fault = fault_result c.args.ast.now (declarations_of c.in_ok-scope.scope.declared) c.in_ok-scope.ensures c.project_or_fault.result c.project_or_fault.ensures.fault;
}
