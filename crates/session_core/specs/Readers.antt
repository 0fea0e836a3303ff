-- Where a reader of packets stands.
use Rattle.std.specs.Prelude.{◌≡◌, ◌≤◌, false}
use Rattle.pktline_core.specs.LinkState.{LinkState}
use Rattle.pktline_core.specs.Reading.{ReaderState}

-- No fault was answered, and the link has given all that it counted.
pub record IsReady (reader : ReaderState) (link : LinkState) : Type 0 where
  pub ready : reader.failed ≡ false
  pub behind : reader.offset ≤ link.given
