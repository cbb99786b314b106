pub mod SectorSizeRows
