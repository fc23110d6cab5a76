-- What a sink's fault prints.
use Rattle.std.specs.Prelude.{ℕ, List, codes}
use Rattle.liquid_template.specs.declared.sink.SinkFault.{SinkFault}
use Rattle.liquid_template.specs.declared.sink.SinkFault.TheVariants.{Failed, Memory}

-- each fault's text
abbrev pub fault_text : SinkFault → List ℕ
fault_text Failed = codes "sink failed"
fault_text Memory = codes "out of memory"
