use Rattle.std.proofs.Common.{◌∙◌, sym}
use Rattle.cert_check.specs.declared.text.fault.Unread.TheVariants.{Version, Line, Size}
use Rattle.cert_check.proofs.texts.Apart.{no-line, the-fault, version-apart, size-apart}
use Rattle.cert_check.proofs.text.reading.wanted.Goals as goal

pub returns-in_default : goal.returns-in_default
returns-in_default c = record {
  exact = no-line c.args.bytes.now c.read_all.result c.read_all.ensures.exact (sym c.err.ensures.value ∙ c.in_default.is);
}

pub returns-in-Version : goal.returns-in-Version
returns-in-Version c = record {
  exact = (version-apart c.args.bytes.now
      (the-fault c.args.bytes.now c.read_all.result c.in-Some.unread Version c.read_all.ensures.exact (sym c.err.ensures.value ∙ c.in-Some.is) c.in-Version.is)).0;
}

pub returns-in-Line : goal.returns-in-Line
returns-in-Line c = record {
  exact = the-fault c.args.bytes.now c.read_all.result c.in-Some.unread (Line c.in-Line.wanted) c.read_all.ensures.exact (sym c.err.ensures.value ∙ c.in-Some.is) c.in-Line.is;
}

pub returns-in-Size : goal.returns-in-Size
returns-in-Size c = record {
  exact = λ number f. size-apart c.args.bytes.now number f
      (the-fault c.args.bytes.now c.read_all.result c.in-Some.unread Size c.read_all.ensures.exact (sym c.err.ensures.value ∙ c.in-Some.is) c.in-Size.is);
}
