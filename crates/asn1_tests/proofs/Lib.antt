mod KnownContents
