pub mod SectorSizes
