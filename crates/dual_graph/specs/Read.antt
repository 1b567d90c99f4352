-- The contents of a source, as the definitions see them.
use Rattle.audit_model.specs.Parsed.{Parsed as ParsedOf}
use Rattle.dual_graph.specs.declared.parsed.Parsed.{Parsed}

-- the parts of a parsed source, as a definition's record
abbrev pub parsed_of : Parsed → ParsedOf
parsed_of p = record { graph = p.graph; counts = p.counts; group = p.group; frozen = p.frozen; start = p.start; labels = p.labels }
