-- The text of a series of tiles and of its report: what they are, what reading a byte does, and that a text is read as just the tiles that it has.
pub mod Lines
pub mod DecimalLaws
pub mod Report
pub mod ReportLaws
